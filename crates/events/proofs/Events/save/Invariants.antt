-- Each turn puts one record more. Assumes nothing.
use Prim.Native.Nat.{◌≤◌}
use lib.ListN.{length}
use mathlib.Core.Path.{◌≡◌}
use Rattle.events.specs.Events.{capacity}
use Rattle.events.specs.Area.{saved_of, area_length}
use Rattle.events.proofs.Records.{Put}
use Rattle.events.proofs.Events.save.Given as goal

abbrev pub invariant-loop-i : goal.invariant-loop-i
invariant-loop-i l =
    (l.i ≤ capacity) × (length l.initial.area ≡ area_length) × (length (saved_of l.self) ≡ capacity)
    × Put (saved_of l.self) l.initial.area l.i l.area
