-- No step before this one reaches. Assumes nothing.
use mathlib.Core.Path.{refl}
use Rattle.drawing.proofs.Times.{short_none, short_more, reached, beyond}
use Rattle.drawing.specs.Marks.{steps}
use borrow.Author.Rules.{rules}
use Rattle.drawing.proofs.marks.mark_step.Goals as goal

pub loop-step-init : goal.loop-step-init
loop-step-init c = short_none

pub returns-then-reaches : goal.returns-then-reaches
unfolding steps
returns-then-reaches c =
    let loop = c.loop-step in
    reached c.args.ticks loop.step-index loop.invariant (search rules) refl c.reaches.ensures c.if-reaches.true

pub loop-step-preserved : goal.loop-step-preserved
unfolding steps
loop-step-preserved c =
    let loop = c.loop-step in
    short_more c.args.ticks loop.step-index loop.invariant (search rules) refl c.reaches.ensures c.if-reaches.false

pub returns : goal.returns
unfolding steps
returns c = let loop = c.loop-step in beyond loop.step-index 1268357529600 loop.invariant (search rules) refl
