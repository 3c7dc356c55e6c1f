-- A number of each width and its bytes, and bytes past the end: computed. Assumes nothing.
use mathlib.Core.Path.{◌≡◌, refl}
use mathlib.Core.List.{List, [], ◌∷◌}
use Prim.Native.Nat.{ℕ}
use Rattle.numbers.specs.Numbers.{low_first_or, le16_at, le32_at, le64_at, be16_at, le16, le32, le64, be16, half_at}

-- the lowest byte first, and the highest
put : (le16 0x0201 ≡ 1 ∷ 2 ∷ []) × (be16 0x0102 ≡ 1 ∷ 2 ∷ []) × (le32 0x04030201 ≡ 1 ∷ 2 ∷ 3 ∷ 4 ∷ [])
    × (le64 0x0807060504030201 ≡ 1 ∷ 2 ∷ 3 ∷ 4 ∷ 5 ∷ 6 ∷ 7 ∷ 8 ∷ [])
put = (refl, refl, refl, refl)

bytes : List ℕ
bytes = 0xAA ∷ 1 ∷ 2 ∷ 3 ∷ 4 ∷ 5 ∷ 6 ∷ 7 ∷ 8 ∷ []

read : (le16_at bytes 1 ≡ 0x0201) × (be16_at bytes 1 ≡ 0x0102) × (le32_at bytes 1 ≡ 0x04030201) × (le64_at bytes 1 ≡ 0x0807060504030201)
unfolding bytes
read = (refl, refl, refl, refl)

-- past the end 0, or what is asked
past : (le16_at bytes 8 ≡ 8) × (be16_at bytes 8 ≡ 0x0800) × (le32_at bytes 7 ≡ 0x0807) × (le64_at bytes 9 ≡ 0)
    × (low_first_or 0xFF 4 bytes 7 ≡ 0xFFFF0807)
unfolding bytes
past = (refl, refl, refl, refl, refl)

-- the lower register of a pair has the low half
pair : (half_at (λ i. 0x00020001) 0 ≡ 1) × (half_at (λ i. 0x00020001) 1 ≡ 2)
pair = (refl, refl)
