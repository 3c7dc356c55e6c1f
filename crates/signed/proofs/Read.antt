-- A signed local holds bits, from which a number of its width is read back. Assumes nothing.
use mathlib.Core.Path.{◌≡◌}
use Prim.Native.Nat.{◌<◌, ◌^◌}
use lib.IntN.{ℤ}
use lib.Signed.{mag}
use mir.Syntax.{Width}
use mir.Val.{to_z, of_z, hbits}
use mir.Facts.{to_z-of_z}

pub read : (w : Width) (z : ℤ) → mag z < 2 ^ hbits w → to_z w (of_z w z) ≡ z
read w z h = to_z-of_z {w = w} {z = z} (record { sfits = h })
