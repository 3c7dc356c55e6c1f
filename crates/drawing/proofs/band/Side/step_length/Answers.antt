-- A corner, or nothing between equal neighbours. Assumes nothing.
use mathlib.Core.Path.{sym, ap, ◌∙◌}
use lib.ListN.{length}
use Rattle.drawing.proofs.Outline.{level, uneven}
use Rattle.drawing.proofs.band.Side.step_length.Goals as goal

pub returns-then-before-behind : goal.returns-then-before-behind
returns-then-before-behind c =
    let args = c.args in
    let same = level args.self.now.back args.self.now.heights.now args.edge c.height-before.ensures c.height-behind.ensures in
    sym (ap length (same c.if-before-behind.true))

pub returns : goal.returns
returns c =
    let args = c.args in
    let step = uneven args.self.now.back args.self.now.heights.now args.edge c.height-before.ensures c.height-behind.ensures in
    c.corner_length.ensures ∙ sym (ap length (step c.onward.ensures c.if-before-behind.false))
