-- The same by sums: the totals are those of the records before the first with which a total of all, from the start on, passes 64 bits.
-- Assumes nothing.
use Rattle.std.specs.Prelude.{Bool, cond, List, [], ◌∷◌, ℕ, zero, suc, ◌+◌, ltb, length, take}
use Rattle.laws.specs.History.{sum}
use Rattle.refusals.specs.declared.Refusal.{Refusal}
use Rattle.refusals.specs.declared.Refusal.TheVariants.{CutBill, PastTotal}
use Rattle.refusals.specs.Refusals.{first}
use Rattle.desk.specs.declared.Record.{Record}
use Rattle.totals.specs.declared.Totals.{Totals}
use Rattle.totals.specs.declared.Billed.{Billed}
use Rattle.totals.specs.Totals.{is_past, records_of, is_cut}

-- the count and the exact totals of seconds, positive sum, negative sum and distance, on top of others
abbrev pub sums_of : Totals → List Record → Totals
sums_of t rs =
    record {
      count = t.count + length rs;
      seconds = t.seconds + sum (λ r. r.seconds) rs;
      positive = t.positive + sum (λ r. r.positive) rs;
      negative = t.negative + sum (λ r. r.negative) rs;
      distance = t.distance + sum (λ r. r.distance) rs;
    }

-- how many numbers from 0 on stand before the first that passes, so many at most
abbrev pub before : (ℕ → Bool) → ℕ → ℕ
before p zero = 0
before p (suc n) = cond (p zero) 0 (suc (before (λ (i : ℕ). p (suc i)) n))

-- the records before the first with which a total passes 64 bits
abbrev pub fitting : Totals → List Record → ℕ
fitting t rs = before (λ (i : ℕ). is_past (sums_of t (take (suc i) rs))) (length rs)

-- 82, a total past 64 bits; where none is, 81, a cut last record: 81 is told with the totals of all whole records, so none may be past
abbrev pub end_rows : ℕ → ℕ → ℕ → List (Refusal × Bool)
end_rows fit records bytes = (PastTotal, ltb fit records) ∷ (CutBill, is_cut bytes) ∷ []

-- after either, the totals before it
abbrev pub account_of : Totals → List ℕ → Billed
account_of t s =
    record {
      outcome = first (end_rows (fitting t (records_of s)) (length (records_of s)) (length s));
      totals = sums_of t (take (fitting t (records_of s)) (records_of s));
    }
