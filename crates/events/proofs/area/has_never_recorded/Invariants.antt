-- Each turn looks at one record more. Assumes nothing.
use Prim.Native.Nat.{◌≤◌}
use Rattle.laws.specs.History.{any}
use Rattle.laws.proofs.Looking.{Without}
use Rattle.events.specs.Events.{capacity}
use Rattle.events.specs.Area.{records_in, never_recorded}
use Rattle.events.proofs.area.has_never_recorded.Given as goal

abbrev pub invariant-loop-i : goal.invariant-loop-i
invariant-loop-i l = (l.i ≤ capacity) × Without (any never_recorded) (records_in l.area) 0 l.i
