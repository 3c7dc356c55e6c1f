-- What the desk gets at a handover (W-214 of document 02): a record of 32 bytes: pack number, seconds since that clear, both sums (64 bits
-- each), distance, and the sum of registers 105 to 109, low byte first, all but the two sums 32 bits wide.
-- Assumes nothing.
use Rattle.std.specs.Prelude.{Bool, not, cond, List, [], ◌∷◌, ◌++◌, ◌≡◌, ℕ, eqb, length}
use Rattle.refusals.specs.declared.Refusal.{Refusal}
use Rattle.refusals.specs.declared.Refusal.TheVariants.{WrongRecord}
use Rattle.refusals.specs.Refusals.{Outcome, is_done, first}
use Rattle.numbers.specs.Numbers.{le32, le64, le32_at, le64_at}
use Rattle.desk.specs.declared.Record.{Record}

-- a record of 32 bytes
abbrev pub record_length : ℕ
record_length = 32

-- pack number, seconds, both sums (64 bits each), distance, and the sum of registers 105 to 109, low byte first
unfoldable pub record_bytes : Record → List ℕ
record_bytes r =
    le32 r.pack ++ le32 r.seconds ++ le64 r.positive ++ le64 r.negative ++ le32 r.distance ++ le32 r.latchings

-- the same read from bytes, the first of them the pack number's lowest; a byte past the end is 0
unfoldable pub record_of : List ℕ → Record
record_of s =
    record {
      pack = le32_at s 0;
      seconds = le32_at s 4;
      positive = le64_at s 8;
      negative = le64_at s 16;
      distance = le32_at s 24;
      latchings = le32_at s 28;
    }

-- 83, a record not of 32 bytes
abbrev pub record_rows : ℕ → List (Refusal × Bool)
record_rows n = (WrongRecord, not (eqb n record_length)) ∷ []

-- what is left in the lent bytes: the record, or where it is refused nothing written
pub record Puts (r : Record) (before : List ℕ) (outcome : Outcome) (after : List ℕ) : Type 0 where
  pub outcome_is : outcome ≡ first (record_rows (length before))
  pub bytes : after ≡ cond (is_done outcome) (record_bytes r) before
