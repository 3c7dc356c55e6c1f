-- Each turn looks at one column more. Assumes nothing.
use Rattle.laws.specs.History.{any}
use Rattle.laws.proofs.Looking.{Without}
use Rattle.drawing.specs.Paths.{is_set}
use Rattle.drawing.proofs.runs.any_set.Given as goal

abbrev pub invariant-loop-word : goal.invariant-loop-word
invariant-loop-word l = Without (any (is_set l.of)) l.bits 0 l.word-index
