-- Each turn passes one used record. Assumes nothing.
use Prim.Native.Nat.{◌≤◌}
use Rattle.events.specs.Events.{capacity}
use Rattle.events.specs.Area.{records_in}
use Rattle.events.proofs.Records.{Used}
use Rattle.events.proofs.area.used_count.Given as goal

abbrev pub invariant-loop-i : goal.invariant-loop-i
invariant-loop-i l = (l.i ≤ capacity) × Used (records_in l.area) l.i
