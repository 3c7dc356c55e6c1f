-- What records come to (W-214 of document 02): the count and the exact totals of seconds, positive sum, negative sum and distance, record
-- by record. Account.antt says the same by sums over all of them.
-- Assumes nothing.
use Rattle.std.specs.Prelude.{Bool, ◌||◌, not, cond, List, [], ◌∷◌, ℕ, zero, suc, ◌+◌, ◌/◌, ◌%◌, Result, Ok, Err, eqb, ltb, length, take, drop}
use Rattle.refusals.specs.declared.Refusal.{Refusal}
use Rattle.refusals.specs.declared.Refusal.TheVariants.{CutBill, PastTotal}
use Rattle.refusals.specs.Refusals.{Outcome, Done, Refused, is_done, giving, first}
use Rattle.desk.specs.declared.Record.{Record}
use Rattle.desk.specs.Desk.{record_length, record_of}
use Rattle.totals.specs.declared.Totals.{Totals}
use Rattle.totals.specs.declared.Billed.{Billed}

-- the largest number of 64 bits
abbrev pub most : ℕ
most = 18446744073709551615

-- of no record
abbrev pub no_totals : Totals
no_totals = record { count = 0; seconds = 0; positive = 0; negative = 0; distance = 0 }

-- ---- one record more

-- the count and the exact totals
abbrev pub with_record : Totals → Record → Totals
with_record t r =
    record {
      count = t.count + 1;
      seconds = t.seconds + r.seconds;
      positive = t.positive + r.positive;
      negative = t.negative + r.negative;
      distance = t.distance + r.distance;
    }

-- 82, a total past 64 bits
abbrev pub is_past : Totals → Bool
is_past t =
    ltb most t.count || ltb most t.seconds || ltb most t.positive || ltb most t.negative || ltb most t.distance

abbrev pub past_rows : Totals → List (Refusal × Bool)
past_rows t = (PastTotal, is_past t) ∷ []

unfoldable pub taken_of : Totals → Record → Result Totals Refusal
taken_of t r = giving (first (past_rows (with_record t r))) (with_record t r)

-- after a refusal, the totals before it
abbrev pub goes_on : Totals → Result Totals Refusal → (Totals → Billed) → Billed
goes_on t (Ok more) rest = rest more
goes_on t (Err refusal) rest = record { outcome = Refused refusal; totals = t }

-- ---- records in a row

-- the whole records of bytes
unfoldable pub pieces : ℕ → List ℕ → List Record
pieces zero s = []
pieces (suc n) s = record_of (take record_length s) ∷ pieces n (drop record_length s)

abbrev pub records_of : List ℕ → List Record
records_of s = pieces (length s / record_length) s

-- 81, a cut last record
abbrev pub is_cut : ℕ → Bool
is_cut bytes = not (eqb (bytes % record_length) 0)

abbrev pub cut_rows : ℕ → List (Refusal × Bool)
cut_rows bytes = (CutBill, is_cut bytes) ∷ []

-- one after the other; the first that is refused is the last, and otherwise the end comes after them
unfoldable pub in_order : Totals → List Record → Outcome → Billed
in_order t [] end = record { outcome = end; totals = t }
in_order t (r ∷ rs) end = goes_on t (taken_of t r) (λ (more : Totals). in_order more rs end)

-- what bytes come to after such totals
unfoldable pub billed_of : Totals → List ℕ → Billed
billed_of t s = in_order t (records_of s) (first (cut_rows (length s)))

-- ---- bytes in parts

-- totals so far, and nothing refused
abbrev pub so_far : Totals → Billed
so_far t = record { outcome = Done; totals = t }

-- with the bytes that follow: where those before are refused, what they came to
abbrev pub followed_by : Billed → List ℕ → Billed
followed_by b s = cond (is_done b.outcome) (billed_of b.totals s) b
