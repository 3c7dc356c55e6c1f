-- Each turn takes one column more. Assumes nothing.
use mathlib.Core.Path.{◌≡◌}
use Prim.Native.Nat.{◌-◌, ◌≤◌}
use lib.ListN.{length}
use Rattle.drawing.specs.Paths.{in_turn, run_to, run_at}
use Rattle.drawing.proofs.runs.Runs.left.Given as goal

abbrev pub invariant-loop-i : goal.invariant-loop-i
invariant-loop-i l = (l.i ≤ length l.self.bits.now) × (l.run ≡ run_to l.self.of l.self.bits.now l.i) × (l.run ≤ l.i) × (l.left ≡ l.room - length (in_turn (run_at l.self.of l.self.bits.now l.self.height) l.i))
