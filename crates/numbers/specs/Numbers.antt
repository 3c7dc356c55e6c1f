-- Numbers as bytes and as registers: low byte first, except in 0x03 and 0x10; in a pair, the lower number holds the low 16 bits.
-- Assumes nothing.
use Rattle.std.specs.Prelude.{cond, List, [], ◌∷◌, ◌≡◌, ℕ, zero, suc, ◌+◌, ◌*◌, ◌^◌, ◌/◌, ◌%◌, eqb, get_or}
use Rattle.std.proofs.lemmas.List.Edits.{sets}

-- ---- a number as bytes

-- the number that so many bytes are from a place on, low byte first: each counts 256 times the one before it; a byte past the end is `past`
abbrev pub low_first_or : ℕ → ℕ → List ℕ → ℕ → ℕ
low_first_or past zero bytes at = 0
low_first_or past (suc zero) bytes at = get_or bytes at past
low_first_or past (suc (suc n)) bytes at = low_first_or past (suc n) bytes at + 256 ^ suc n * get_or bytes (at + suc n) past

-- where a byte past the end is 0
abbrev pub low_first_at : ℕ → List ℕ → ℕ → ℕ
low_first_at = low_first_or 0

-- so many bytes of a number, low byte first; the last has what is left
abbrev pub low_first : ℕ → ℕ → List ℕ
low_first zero n = []
low_first (suc zero) n = n ∷ []
low_first (suc (suc k)) n = n % 256 ∷ low_first (suc k) (n / 256)

-- sixteen, thirty-two and sixty-four bits
abbrev pub le16_at : List ℕ → ℕ → ℕ
le16_at = low_first_at 2

abbrev pub le32_at : List ℕ → ℕ → ℕ
le32_at = low_first_at 4

abbrev pub le64_at : List ℕ → ℕ → ℕ
le64_at = low_first_at 8

abbrev pub le16 : ℕ → List ℕ
le16 = low_first 2

abbrev pub le32 : ℕ → List ℕ
le32 = low_first 4

abbrev pub le64 : ℕ → List ℕ
le64 = low_first 8

-- sixteen bits high byte first, as 0x03 and 0x10 have them
abbrev pub be16_at : List ℕ → ℕ → ℕ
be16_at bytes at = 256 * get_or bytes at 0 + get_or bytes (at + 1) 0

abbrev pub be16 : ℕ → List ℕ
be16 n = n / 256 ∷ n % 256 ∷ []

-- `after` is `before` with the bytes put one by one from a place on; past its end nothing is put
pub record Wrote (before : List ℕ) (at : ℕ) (bytes after : List ℕ) : Type 0 where
  pub wrote : after ≡ sets before at bytes

-- ---- a number of 32 bits as a pair of registers

-- its two halves
abbrev pub low_half : ℕ → ℕ
low_half n = n % 65536

abbrev pub high_half : ℕ → ℕ
high_half n = n / 65536

-- the half that is the i-th word of a row of pairs
abbrev pub half_of : ℕ → ℕ → ℕ
half_of n i = cond (eqb (i % 2) 0) (low_half n) (high_half n)

-- the i-th word of a row of pairs
abbrev pub half_at : (ℕ → ℕ) → ℕ → ℕ
half_at f i = half_of (f (i / 2)) i
