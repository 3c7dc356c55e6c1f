-- A signed number and half the range of its width: an unsigned number that compares as it does. A signed local holds bits, so what the
-- code reads is `to_z w (of_z w z)`.
-- Assumes nothing.
use mathlib.Core.Path.{◌≡◌, ap}
use Prim.Native.Nat.{ℕ, suc, ◌+◌, ◌<◌, ◌≤◌, ◌^◌}
use native.Mathlib.Nat.{add_comm}
use native.Mathlib.Omega.{arith}
use lib.Dec.{T, leb}
use lib.IntN.{ℤ, pos, negsuc, ◌+ℤ◌}
use lib.Signed.{mag}
use mir.Syntax.{Width}
use mir.Val.{SFits, to_z, of_z, hbits}
use mir.Facts.{to_z-of_z, to_z_pos, sfits_widen}
use borrow.Author.Tests.{le-ltb}
use Rattle.signed.specs.Signed.{lift}

module _ (h : ℕ) where
  lift_sum : (z : ℤ) → mag z < h → z +ℤ pos h ≡ pos (lift h z)
  lift_sum (pos n) f = ap pos (add_comm n h)
  lift_sum (negsuc n) f = simp (le-ltb h (suc n) f)

  pub lift_lt : (z : ℤ) → mag z < h → lift h z < h + h
  lift_lt (pos n) f = omega arith
  lift_lt (negsuc n) f = omega arith

-- z of the width w, read at a width w' that is wider
module _ (w w' : Width) (z : ℤ) (wider : T (leb (hbits w) (hbits w'))) (f : SFits w z) where
  pub widened : to_z w' (of_z w' (to_z w (of_z w z))) ≡ z
  widened = rw (to_z-of_z {w = w} f) (to_z-of_z {w = w'} (sfits_widen wider f))

  pub widened_fits : SFits w' (to_z w (of_z w z))
  widened_fits = rw (to_z-of_z {w = w} f) (sfits_widen wider f)

  raised : to_z w' (of_z w' (to_z w (of_z w z))) +ℤ pos (2 ^ hbits w) ≡ pos (lift (2 ^ hbits w) z)
  raised = rw widened (lift_sum (2 ^ hbits w) z f.sfits)

  -- and raised by half of w's range, for which w' has room
  module _ (room : 2 ^ hbits w + 2 ^ hbits w ≤ 2 ^ hbits w') where
    pub raised_lt : lift (2 ^ hbits w) z < 2 ^ hbits w'
    raised_lt = let l : lift (2 ^ hbits w) z < 2 ^ hbits w + 2 ^ hbits w = lift_lt (2 ^ hbits w) z f.sfits in omega arith

    pub raised_fits : SFits w' (to_z w' (of_z w' (to_z w (of_z w z))) +ℤ pos (2 ^ hbits w))
    raised_fits = rw raised (record { sfits = raised_lt })

    pub raised_read : to_z w' (of_z w' (to_z w' (of_z w' (to_z w (of_z w z))) +ℤ pos (2 ^ hbits w))) ≡ pos (lift (2 ^ hbits w) z)
    raised_read = rw raised (to_z_pos w' {n = lift (2 ^ hbits w) z} raised_lt)
