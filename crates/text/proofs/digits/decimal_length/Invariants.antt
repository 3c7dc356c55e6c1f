-- Each turn counts one digit, and those of the tenth part are left. Assumes nothing.
use mathlib.Core.Path.{◌≡◌}
use Prim.Native.Nat.{◌+◌}
use lib.ListN.{length}
use Rattle.text.specs.Digits.{decimal_text}
use Rattle.text.proofs.digits.decimal_length.Given as goal

abbrev pub invariant-loop-left : goal.invariant-loop-left
invariant-loop-left l = l.count + length (decimal_text l.left) ≡ 1 + length (decimal_text l.number)

abbrev pub decreases-loop-left : goal.decreases-loop-left
decreases-loop-left l = l.left
