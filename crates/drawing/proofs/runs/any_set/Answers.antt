-- Each turn looks at one column more. Assumes nothing.
use Rattle.laws.proofs.Looking.{any_asks, none_yet, not_here, found, nowhere}
use Rattle.drawing.specs.Paths.{is_set}
use borrow.Author.Rules.{rules}
use Rattle.drawing.proofs.runs.any_set.Goals as goal

pub loop-word-init : goal.loop-word-init
loop-word-init c = none_yet

pub returns-then-is_set : goal.returns-then-is_set
returns-then-is_set c = found 0 (any_asks (is_set c.args.of)) c.loop-word.invariant (search rules) c.is_set.ensures c.if-is_set.true

pub loop-word-preserved : goal.loop-word-preserved
loop-word-preserved c = not_here 0 (any_asks (is_set c.args.of)) c.loop-word.invariant (search rules) c.is_set.ensures c.if-is_set.false

pub returns : goal.returns
returns c = nowhere 0 (any_asks (is_set c.args.of)) c.loop-word.invariant (search rules)
