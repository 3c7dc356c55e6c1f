-- How bytes stand on the wire.
-- Assumes nothing.
use Rattle.std.specs.Prelude.{Bool, cond, List, [], ◌∷◌, ◌++◌, ◌≡◌, ℕ, zero, suc, ◌+◌, ◌-◌, length, take, replicate}
use Rattle.crc.specs.Crc.{crc_of}
use Rattle.numbers.specs.Numbers.{le16, be16, Wrote}

-- sixteen bits: high byte first, as 0x03 and 0x10 have them, or low byte first
abbrev pub word16 : Bool → ℕ → List ℕ
word16 high_first w = cond high_first (be16 w) (le16 w)

-- n numbers in a row, f at, f (at + 1), .., each by its bytes
unfoldable pub words : (ℕ → List ℕ) → (ℕ → ℕ) → ℕ → ℕ → List ℕ
words bytes f at zero = []
words bytes f at (suc n) = words bytes f at n ++ bytes (f (at + n))

-- the bytes, then their CRC, sent low byte first
unfoldable pub sealed : List ℕ → List ℕ
sealed xs = xs ++ le16 (crc_of xs)

-- the bytes, then zeros up to n bytes
unfoldable pub padded : ℕ → List ℕ → List ℕ
padded n xs = xs ++ replicate (n - length xs) 0

-- NACK: AA 00 CMD ERROR; ACK: AA 01 CMD
abbrev pub nack_of : ℕ → ℕ → List ℕ
nack_of command error = 0xAA ∷ 0x00 ∷ command ∷ error ∷ []

abbrev pub ack_of : ℕ → List ℕ
ack_of command = 0xAA ∷ 0x01 ∷ command ∷ []

-- PL where there is one
abbrev pub length_byte : Bool → ℕ → List ℕ
length_byte has n = cond has (n ∷ []) []

-- What a write leaves of a buffer, whatever its length. Each is a record, so that a law's arguments are read off it.

-- `after` is the bytes and zeros, as many as `before` has
pub record Filled (before bytes after : List ℕ) : Type 0 where
  pub filled : after ≡ take (length before) (padded (length before) bytes)

-- PL is put, and the place after it is told
pub record Lengthened (before : List ℕ) (has : Bool) (bytes place : ℕ) (after : List ℕ) : Type 0 where
  pub place_is : place ≡ cond has 3 2
  pub put : Wrote before 2 (length_byte has bytes) after
