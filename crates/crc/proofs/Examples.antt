-- P1 of document 01, the CRC of each published frame of document 000 (1.3.1 to 1.3.3), and three of document 001's
-- (table 3, low byte first). Each is computed from the definition.
-- Assumes nothing.
use mathlib.Core.Path.{◌≡◌, refl}
use mathlib.Core.List.{[], ◌∷◌}
use Rattle.crc.specs.Crc.{crc_of, byte_in, times, shifted_out}

-- P1: CRC of no bytes is 0xFFFF; of 00 it is 0x40BF
pub P1 : (crc_of [] ≡ 0xFFFF) × (crc_of (0x00 ∷ []) ≡ 0x40BF)
unfolding crc_of byte_in times shifted_out
P1 = (refl, refl)

write_asked : crc_of (0xAA ∷ 0x10 ∷ 0x01 ∷ 0x3B ∷ 0x00 ∷ 0x02 ∷ 0x04 ∷ 0x10 ∷ 0x68 ∷ 0x09 ∷ 0xC4 ∷ []) ≡ 0x6119
unfolding crc_of byte_in times shifted_out
write_asked = refl

write_answered : crc_of (0xAA ∷ 0x10 ∷ 0x01 ∷ 0x3B ∷ 0x00 ∷ 0x02 ∷ []) ≡ 0x2228
unfolding crc_of byte_in times shifted_out
write_answered = refl

read_asked : crc_of (0xAA ∷ 0x03 ∷ 0x00 ∷ 0x05 ∷ 0x00 ∷ 0x05 ∷ []) ≡ 0x138C
unfolding crc_of byte_in times shifted_out
read_asked = refl

read_answered : crc_of (0xAA ∷ 0x03 ∷ 0x0A ∷ 0x97 ∷ 0x40 ∷ 0x97 ∷ 0x40 ∷ 0x97 ∷ 0x2C ∷ 0x97 ∷ 0x2C ∷ 0x97 ∷ 0x2C ∷ []) ≡ 0xC73E
unfolding crc_of byte_in times shifted_out
read_answered = refl

temperatures_asked : crc_of (0xAA ∷ 0x1B ∷ []) ≡ 0x1B3F
unfolding crc_of byte_in times shifted_out
temperatures_asked = refl

temperatures_answered : crc_of (0xAA ∷ 0x1B ∷ 0x06 ∷ 0x16 ∷ 0x01 ∷ 0x14 ∷ 0x01 ∷ 0x16 ∷ 0x01 ∷ []) ≡ 0x4E0E
unfolding crc_of byte_in times shifted_out
temperatures_answered = refl

cabinet_0 : crc_of (0x00 ∷ 0x04 ∷ 0x10 ∷ 0x00 ∷ 0x00 ∷ 0x17 ∷ []) ≡ 0x15B5
unfolding crc_of byte_in times shifted_out
cabinet_0 = refl

cabinet_1 : crc_of (0x01 ∷ 0x04 ∷ 0x10 ∷ 0x00 ∷ 0x00 ∷ 0x17 ∷ []) ≡ 0xC4B4
unfolding crc_of byte_in times shifted_out
cabinet_1 = refl

cabinet_15 : crc_of (0x0F ∷ 0x04 ∷ 0x10 ∷ 0x00 ∷ 0x00 ∷ 0x17 ∷ []) ≡ 0xEAB5
unfolding crc_of byte_in times shifted_out
cabinet_15 = refl
