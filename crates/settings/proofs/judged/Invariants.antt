-- Each register passed by is in its range; where one is not, it is the lowest, and where none is left the order decides. Assumes nothing.
use mathlib.Core.Path.{◌≡◌}
use Prim.Native.Nat.{◌≤◌}
use Rattle.settings.specs.Settings.{registers}
use Rattle.settings.proofs.Hundred.{range_row, on_from}
use Rattle.settings.proofs.judged.Given as goal

abbrev pub invariant-loop-i : goal.invariant-loop-i
invariant-loop-i l = (l.i ≤ 100) × (range_row l.values (on_from l.i) ≡ range_row l.values registers)
