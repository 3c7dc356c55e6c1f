-- Each turn takes one step more. Assumes nothing.
use mathlib.Core.Path.{◌∙◌}
use Rattle.drawing.proofs.InTurn.{turn_left, turn_all_left}
use Rattle.drawing.proofs.Outline.{step_long}
use Rattle.drawing.specs.Paths.{step_at, side_text}
use borrow.Author.Rules.{rules}
use Rattle.drawing.proofs.band.Side.left.Goals as goal

pub step_length-requires : goal.step_length-requires
step_length-requires c = c.edge.ensures.1

pub loop-k-preserved : goal.loop-k-preserved
loop-k-preserved c =
    let args = c.args in
    let loop = c.loop-k in
    c.saturating_sub-left.ensures
    ∙ turn_left (step_at args.self.now.back args.self.now.heights.now args.self.now.last) args.room loop.k loop.invariant
    (step_long args.self.now.back args.self.now.heights.now args.self.now.last loop.k c.step_length.ensures c.edge.ensures.0)

pub returns : goal.returns
unfolding side_text
returns c =
    let args = c.args in
    let loop = c.loop-k in
    turn_all_left (step_at args.self.now.back args.self.now.heights.now args.self.now.last) args.room args.self.now.last loop.k (search rules)
    c.loop-k-test.false loop.invariant
