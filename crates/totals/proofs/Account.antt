-- The totals are the sums over the records before the first with which a total of all, from the start on, passes 64 bits; and 82 where
-- there is such a record. Why: what is added record by record is the sum.
-- Assumes nothing.
use mathlib.Core.Path.{◌≡◌, sym, ap, ◌∙◌}
use mathlib.Core.Bool.{Bool, true, false, cond}
use mathlib.Core.List.{List, [], ◌∷◌}
use Prim.Native.Nat.{ℕ, suc}
use native.Mathlib.Omega.{arith}
use borrow.Author.Tests.{lt-ltb}
use lib.Dec.{ltb}
use lib.ListN.{length, take}
use Rattle.refusals.specs.declared.Refusal.TheVariants.{PastTotal}
use Rattle.refusals.specs.Refusals.{Outcome, Done, Refused, giving, first}
use Rattle.desk.specs.declared.Record.{Record}
use Rattle.totals.specs.declared.Totals.{Totals}
use Rattle.totals.specs.declared.Billed.{Billed}
use Rattle.totals.specs.Totals.{with_record, is_past, taken_of, goes_on, records_of, cut_rows, in_order, billed_of}
use Rattle.totals.proofs.Records.{same_test}
use Rattle.totals.specs.Account.{sums_of, before, fitting, account_of}

-- ---- sums

same : {t u : Totals} → t.count ≡ u.count → t.seconds ≡ u.seconds → t.positive ≡ u.positive → t.negative ≡ u.negative
    → t.distance ≡ u.distance → t ≡ u
same a b c d e = λ i. record { count = a i; seconds = b i; positive = c i; negative = d i; distance = e i }

no_sum : (t : Totals) → sums_of t [] ≡ t
no_sum t = same (omega arith) (omega arith) (omega arith) (omega arith) (omega arith)

first_sum : (t : Totals) (r : Record) (rs : List Record) → sums_of t (r ∷ rs) ≡ sums_of (with_record t r) rs
first_sum t r rs = same (omega arith) (omega arith) (omega arith) (omega arith) (omega arith)

-- ---- records in a row

-- what so many records of all come to
abbrev comes : Totals → List Record → Outcome → ℕ → Billed
comes t rs end n = record { outcome = cond (ltb n (length rs)) (Refused PastTotal) end; totals = sums_of t (take n rs) }

in_order_lem : (rs : List Record) (t : Totals) (end : Outcome) → in_order t rs end ≡ comes t rs end (fitting t rs)
unfolding in_order taken_of first
in_order_lem [] t end = ap (λ (u : Totals). record { outcome = end; totals = u }) (sym (no_sum t))
in_order_lem (r ∷ rs) t end = go (is_past (with_record t r)) (in_order_lem rs (with_record t r) end) ∙ sym by_sums
  where
    later : ℕ
    later = fitting (with_record t r) rs

    -- the test of each record is by the sums from the start on
    by_sums : comes t (r ∷ rs) end (fitting t (r ∷ rs)) ≡ comes t (r ∷ rs) end (cond (is_past (with_record t r)) 0 (suc later))
    by_sums =
        λ i. comes t (r ∷ rs) end (cond (is_past ((first_sum t r [] ∙ no_sum (with_record t r)) i)) 0
        (suc (before (λ (k : ℕ). is_past (first_sum t r (take (suc k) rs) i)) (length rs))))

    go : (past : Bool) → in_order (with_record t r) rs end ≡ comes (with_record t r) rs end later
        → goes_on t (giving (cond past (Refused PastTotal) Done) (with_record t r)) (λ (more : Totals). in_order more rs end)
        ≡ comes t (r ∷ rs) end (cond past 0 (suc later))
    go true i = sym (λ j. record {
      outcome = cond (lt-ltb 0 (suc (length rs)) (omega arith) j) (Refused PastTotal) end;
      totals = no_sum t j;
    })
    go false i =
        let one_less = same_test (suc later) (suc (length rs)) later (length rs) (λ l. omega arith) (λ l. omega arith) in
        i ∙ sym (λ j. record {
          outcome = cond (one_less j) (Refused PastTotal) end;
          totals = first_sum t r (take later rs) j;
        })

-- ---- the theorem

pub account : (t : Totals) (s : List ℕ) → billed_of t s ≡ account_of t s
unfolding billed_of first
account t s = in_order_lem (records_of s) t (first (cut_rows (length s)))
