-- Each turn copies one record. Assumes nothing.
use Prim.Native.Nat.{◌-◌, ◌≤◌}
use Rattle.events.specs.Events.{capacity, no_event}
use Rattle.events.specs.Area.{records_in}
use Rattle.events.proofs.Records.{Last}
use Rattle.events.proofs.area.list_in.Given as goal

abbrev pub invariant-loop-i : goal.invariant-loop-i
invariant-loop-i l = (l.i ≤ l.count) × (l.count ≤ capacity) × Last no_event (capacity - l.count) l.count (records_in l.area) l.i l.list
