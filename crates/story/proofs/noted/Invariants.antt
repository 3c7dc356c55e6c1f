-- Each kind in turn, by its bit. Assumes nothing.
use Rattle.story.proofs.Loops.{Noting}
use Rattle.story.proofs.noted.Given as goal

abbrev pub invariant-loop-spells : goal.invariant-loop-spells
invariant-loop-spells l = Noting l.initial.spells-items l.bits l.tick l.spells-items l.rest l.spells-index
