-- So many digits stand, each with its comma. Assumes nothing.
use Rattle.figures.proofs.Texts.{Grouping}
use Rattle.figures.proofs.write_grouped.Given as goal

abbrev pub invariant-loop-i : goal.invariant-loop-i
invariant-loop-i l = Grouping l.initial.out l.at l.digits l.i l.next l.out
