-- Each turn takes one step more. Assumes nothing.
use mathlib.Core.Path.{◌≡◌}
use Prim.Native.Nat.{◌-◌}
use lib.ListN.{length}
use Rattle.drawing.specs.Paths.{in_turn, step_at}
use Rattle.drawing.proofs.band.Side.left.Given as goal

abbrev pub invariant-loop-k : goal.invariant-loop-k
invariant-loop-k l = l.left ≡ l.room - length (in_turn (step_at l.self.back l.self.heights.now l.self.last) l.k)
