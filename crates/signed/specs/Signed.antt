-- Signed numbers at the edge of the board: what they are as bits, their two sides of zero, and whole degrees.
-- Assumes nothing.
use Rattle.std.specs.Prelude.{ℕ, suc, ◌+◌, ◌-◌, ◌/◌, min, cond, ℤ, pos, negsuc}
use Rattle.std.specs.Int.Signed.{le_z}
use Rattle.std.specs.Int.{w8, w16, w32}
use Rattle.std.proofs.Common.{to_z, of_z}

-- z + h, of a z that is at least -h: compares as z does
abbrev pub lift : ℕ → ℤ → ℕ
lift h (pos n) = h + n
lift h (negsuc n) = h - suc n

-- a signed number as its sixteen bits (two's complement), and back
unfoldable pub bits_of : ℤ → ℕ
bits_of z = of_z w16 z

unfoldable pub from_bits : ℕ → ℤ
from_bits b = to_z w16 b

-- the signed number that 32 bits are
unfoldable pub from_bits32 : ℕ → ℤ
from_bits32 b = to_z w32 b

-- a positive number as it is, 0 for any other
abbrev pub above : ℤ → ℕ
above (pos n) = n
above (negsuc n) = 0

-- a negative number as a positive one, 0 for any other
abbrev pub below : ℤ → ℕ
below (pos n) = 0
below (negsuc n) = suc n

-- the lower and the higher of two
abbrev pub lower_of : ℤ → ℤ → ℤ
lower_of a b = cond (le_z a b) a b

abbrev pub higher_of : ℤ → ℤ → ℤ
higher_of a b = cond (le_z a b) b a

-- tenths in whole °C, rounded toward minus infinity
abbrev pub whole_degrees : ℤ → ℤ
whole_degrees (pos n) = pos (n / 10)
whole_degrees (negsuc n) = negsuc (n / 10)

-- held to -128 to 127
abbrev pub held_to_byte : ℤ → ℤ
held_to_byte (pos n) = pos (min 127 n)
held_to_byte (negsuc n) = negsuc (min 127 n)

-- the byte that shows tenths in whole °C
unfoldable pub degrees_of : ℤ → ℕ
degrees_of tenths = of_z w8 (held_to_byte (whole_degrees tenths))
