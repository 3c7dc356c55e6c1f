-- No step before this one reaches. Assumes nothing.
use Rattle.drawing.proofs.Times.{Short}
use Rattle.drawing.proofs.marks.mark_step.Given as goal

abbrev pub invariant-loop-step : goal.invariant-loop-step
invariant-loop-step l = Short l.ticks l.step-index
