-- No cell before this one has the value. Assumes nothing.
use mathlib.Core.Path.{◌≡◌}
use lib.ListN.{drop}
use Rattle.story.specs.Story.{first_after}
use Rattle.story.proofs.reason.first_place.Given as goal

abbrev pub invariant-loop-i : goal.invariant-loop-i
invariant-loop-i l = first_after l.i l.value (drop l.i l.cell-items) ≡ first_after 0 l.value l.cell-items
