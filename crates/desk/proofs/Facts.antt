-- One record in which each byte has a value of its own, and the largest sums; records of 32 bytes and of others. Computed.
-- Assumes nothing.
use mathlib.Core.Path.{◌≡◌, refl}
use mathlib.Core.List.{List, [], ◌∷◌, map}
use Prim.Native.Nat.{ℕ}
use Rattle.refusals.specs.declared.Refusal.TheVariants.{WrongRecord}
use Rattle.refusals.specs.Refusals.{Done, Refused, first}
use Rattle.desk.specs.declared.Record.{Record}
use Rattle.desk.specs.Desk.{record_bytes, record_of, record_rows}

-- pack number, seconds, both sums, distance, and the sum of registers 105 to 109, each low byte first
hired : Record
hired =
    record {
      pack = 0x04030201;
      seconds = 0x08070605;
      positive = 0x100F0E0D0C0B0A09;
      negative = 0x1817161514131211;
      distance = 0x1C1B1A19;
      latchings = 0x201F1E1D;
    }

in_order : List ℕ
in_order = 1 ∷ 2 ∷ 3 ∷ 4 ∷ 5 ∷ 6 ∷ 7 ∷ 8 ∷ 9 ∷ 10 ∷ 11 ∷ 12 ∷ 13 ∷ 14 ∷ 15 ∷ 16 ∷ 17 ∷ 18 ∷ 19 ∷ 20 ∷ 21 ∷ 22 ∷ 23 ∷ 24 ∷ 25 ∷ 26
    ∷ 27 ∷ 28 ∷ 29 ∷ 30 ∷ 31 ∷ 32 ∷ []

each_byte : (record_bytes hired ≡ in_order) × (record_of in_order ≡ hired)
unfolding hired in_order record_bytes record_of
each_byte = (refl, refl)

-- sums of 64 bits, stopped at the largest value
stopped : Record
stopped = record { pack = 0; seconds = 0; positive = 18446744073709551615; negative = 18446744073709551615; distance = 0; latchings = 0 }

largest : record_bytes stopped
    ≡ 0 ∷ 0 ∷ 0 ∷ 0 ∷ 0 ∷ 0 ∷ 0 ∷ 0 ∷ 255 ∷ 255 ∷ 255 ∷ 255 ∷ 255 ∷ 255 ∷ 255 ∷ 255 ∷ 255 ∷ 255 ∷ 255 ∷ 255 ∷ 255 ∷ 255 ∷ 255 ∷ 255
    ∷ 0 ∷ 0 ∷ 0 ∷ 0 ∷ 0 ∷ 0 ∷ 0 ∷ 0 ∷ []
unfolding stopped record_bytes
largest = refl

-- 83: no byte, one too few, one too many
wrong_length :
    map (λ (n : ℕ). first (record_rows n)) (0 ∷ 31 ∷ 32 ∷ 33 ∷ [])
    ≡ Refused WrongRecord ∷ Refused WrongRecord ∷ Done ∷ Refused WrongRecord ∷ []
unfolding first
wrong_length = refl
