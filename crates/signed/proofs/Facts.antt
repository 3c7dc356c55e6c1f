-- P9 of document 01, and the ends of the range of whole degrees, computed.
-- Assumes nothing.
use mathlib.Core.Path.{◌≡◌, refl}
use lib.IntN.{pos, negsuc}
use Rattle.signed.specs.Signed.{whole_degrees, degrees_of, bits_of, from_bits, from_bits32}

-- P9: -5 tenths is -1 °C, 5 is 0
pub P9 : (whole_degrees (negsuc 4) ≡ negsuc 0) × (whole_degrees (pos 5) ≡ pos 0) × (degrees_of (negsuc 4) ≡ 0xFF) × (degrees_of (pos 5) ≡ 0)
unfolding degrees_of
P9 = (refl, refl, refl, refl)

-- -128 °C and 127 °C are the last: -128.1 and 128.0 stay there
ends : (degrees_of (negsuc 1279) ≡ 0x80) × (degrees_of (negsuc 1280) ≡ 0x80) × (degrees_of (pos 1279) ≡ 0x7F) × (degrees_of (pos 1280) ≡ 0x7F)
unfolding degrees_of
ends = (refl, refl, refl, refl)

-- -1 is 65,535 as sixteen bits, and 65,535 is -1
minus_one : (bits_of (negsuc 0) ≡ 65535) × (from_bits 65535 ≡ negsuc 0)
unfolding bits_of from_bits
minus_one = (refl, refl)

-- -1 is all ones in 32 bits too, and the upper half begins with the least number
minus_one_32 : (from_bits32 4294967295 ≡ negsuc 0) × (from_bits32 2147483648 ≡ negsuc 2147483647) × (from_bits32 2147483647 ≡ pos 2147483647)
unfolding from_bits32
minus_one_32 = (refl, refl, refl)
