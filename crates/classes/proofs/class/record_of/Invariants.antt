-- Each turn puts one of the twelve. Assumes nothing.
use Rattle.classes.proofs.Made.{Laid}
use Rattle.classes.proofs.class.record_of.Given as goal

abbrev pub invariant-loop-i : goal.invariant-loop-i
invariant-loop-i l = Laid l.edition l.settings l.i l.class
