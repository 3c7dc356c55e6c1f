-- CRC: start 0xFFFF; for each byte, exclusive-or it in, then eight times shift right by one and, if the bit shifted out was
-- 1, exclusive-or 0xA001 (document 01, Frames).
-- Assumes nothing.
use Rattle.std.specs.Prelude.{ℕ, zero, suc, ◌/◌, ◌%◌, cond, List, eqb}
use Rattle.std.specs.Int.Bits.{bit_xor}
use Rattle.laws.specs.Fold.{gather}

-- shift right by one and, if the bit shifted out was 1, exclusive-or 0xA001
unfoldable pub shifted_out : ℕ → ℕ
shifted_out c = cond (eqb (c % 2) 1) (bit_xor (c / 2) 0xA001) (c / 2)

-- n times
unfoldable pub times : ℕ → ℕ → ℕ
times zero c = c
times (suc n) c = times n (shifted_out c)

-- exclusive-or the byte in, then eight times
unfoldable pub byte_in : ℕ → ℕ → ℕ
byte_in c b = times 8 (bit_xor c b)

-- start 0xFFFF; for each byte
unfoldable pub crc_of : List ℕ → ℕ
crc_of bytes = gather byte_in 0xFFFF bytes
