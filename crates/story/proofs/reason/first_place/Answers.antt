-- No cell before this one has the value. Assumes nothing.
use mathlib.Core.Path.{◌∙◌}
use Rattle.story.proofs.Loops.{first_here, first_later, first_nowhere}
use borrow.Author.Rules.{rules}
use Rattle.story.proofs.reason.first_place.Goals as goal

pub returns-then-cell-value : goal.returns-then-cell-value
returns-then-cell-value c = first_here c.args.cells c.args.value c.loop-i.i (search rules) c.if-cell-value.true ∙ c.loop-i.invariant

pub loop-i-preserved : goal.loop-i-preserved
loop-i-preserved c = first_later c.args.cells c.args.value c.loop-i.i (search rules) c.if-cell-value.false ∙ c.loop-i.invariant

pub returns : goal.returns
returns c = first_nowhere c.args.cells c.args.value c.loop-i.i (search rules) ∙ c.loop-i.invariant
