-- Record by record: what is left of the bytes, after what is taken, comes to the whole bill.
-- Assumes nothing.
use mathlib.Core.Path.{◌≡◌, refl, sym, ap, ◌∙◌}
use mathlib.Core.Bool.{Bool, true, false}
use mathlib.Core.List.{List, [], ◌∷◌, ◌++◌}
use Prim.Native.Nat.{ℕ, suc, ◌+◌, ◌/◌, ◌%◌, ◌<◌, ◌≤◌}
use native.Mathlib.Omega.{arith}
use lib.Dec.{ltb}
use lib.ListN.{length, take, drop, length-drop, length-append}
use lib.Seq.{take_at, drop_at}
use borrow.Author.Tests.{lt-ltb, le-ltb, ltb-true, ltb-false}
use Rattle.refusals.specs.Refusals.{Outcome, Refused, first}
use Rattle.refusals.specs.declared.Refusal.{Refusal}
use Rattle.std.specs.Prelude.{Result, Ok, Err}
use Rattle.desk.specs.declared.Record.{Record}
use Rattle.desk.specs.Desk.{record_length, record_of}
use Rattle.totals.specs.declared.Totals.{Totals}
use Rattle.totals.specs.declared.Billed.{Billed}
use Rattle.totals.specs.Totals.{taken_of, pieces, records_of, cut_rows, in_order, billed_of}

-- ---- one record

pub same_test : (a b c d : ℕ) → (c < d → a < b) → (d ≤ c → b ≤ a) → ltb a b ≡ ltb c d
same_test a b c d f g = go (ltb c d) refl
  where
    go : (t : Bool) → ltb c d ≡ t → ltb a b ≡ t
    go true e = lt-ltb a b (f (ltb-true c d e))
    go false e = le-ltb a b (g (ltb-false c d e))

-- ---- the records of bytes

pub no_record : (s : List ℕ) → length s < record_length → records_of s ≡ []
unfolding pieces
no_record s h = let e : length s / record_length ≡ 0 = omega arith in ap (λ (n : ℕ). pieces n s) e

pub first_record : (s : List ℕ) → record_length ≤ length s → records_of s ≡ record_of (take record_length s) ∷ records_of (drop record_length s)
unfolding pieces
first_record s h =
    let e : length s / record_length ≡ suc (length (drop record_length s) / record_length) = simp length-drop (omega arith) in
    ap (λ (n : ℕ). pieces n s) e

-- ---- what bytes come to, by what stands at their front

-- the first record of bytes, taken
abbrev pub first_taken : Totals → List ℕ → Result Totals Refusal
first_taken t s = taken_of t (record_of (take record_length s))

module _ (t : Totals) (s : List ℕ) where
  pub billed_short : length s < record_length → billed_of t s ≡ record { outcome = first (cut_rows (length s)); totals = t }
  unfolding billed_of in_order
  billed_short h = ap (λ (rs : List Record). in_order t rs (first (cut_rows (length s)))) (no_record s h)

  pub billed_refused : {refusal : Refusal} → record_length ≤ length s → first_taken t s ≡ Err refusal
      → billed_of t s ≡ record { outcome = Refused refusal; totals = t }
  unfolding billed_of in_order
  billed_refused h e = ap (λ (rs : List Record). in_order t rs (first (cut_rows (length s)))) (first_record s h) ∙ rw e refl

  pub billed_taken : {more : Totals} → record_length ≤ length s → first_taken t s ≡ Ok more
      → billed_of t s ≡ billed_of more (drop record_length s)
  unfolding billed_of in_order
  billed_taken h e =
      let m : length s % record_length ≡ length (drop record_length s) % record_length = simp length-drop (omega arith) in
      ap (λ (rs : List Record). in_order t rs (first (cut_rows (length s)))) (first_record s h) ∙ rw (e, m) refl

-- ---- the loop

pub record Going (t₀ : Totals) (s₀ : List ℕ) (t : Totals) (s : List ℕ) : Type 0 where
  pub rest : billed_of t s ≡ billed_of t₀ s₀
  pub cut : length s % record_length ≡ length s₀ % record_length

pub begun : {t : Totals} {s : List ℕ} → Going t s t s
begun = record { rest = refl; cut = refl }

module _ {t₀ : Totals} {s₀ : List ℕ} {t : Totals} {s : List ℕ} (g : Going t₀ s₀ t s) where
  pub ends : {o : Outcome} → o ≡ first (cut_rows (length s₀)) → length s < record_length
      → ◌≡◌ {A = Billed} (record { outcome = o; totals = t }) (billed_of t₀ s₀)
  ends e h =
      ap (λ (o : Outcome). record { outcome = o; totals = t }) (e ∙ rw (sym g.cut))
      ∙ sym (billed_short t s h)
      ∙ g.rest

  module _ (part more : List ℕ) {r : Record} {b : Result Totals Refusal} (split : s ≡ part ++ more) (long : length part ≡ record_length)
      (decoded : r ≡ record_of part) (taken : b ≡ taken_of t r)
    where
      is_first : first_taken t s ≡ b
      is_first =
          ap (λ (x : List ℕ). taken_of t (record_of x)) (ap (take record_length) split ∙ take_at part more record_length long)
          ∙ sym (taken ∙ ap (taken_of t) decoded)

      longer : length s ≡ record_length + length more
      longer = ap length split ∙ length-append part more ∙ ap (λ (n : ℕ). n + length more) long

      pub stops : {refusal : Refusal} → b ≡ Err refusal → ◌≡◌ {A = Billed} (record { outcome = Refused refusal; totals = t }) (billed_of t₀ s₀)
      stops e = let l = longer in sym (billed_refused t s (omega arith) (is_first ∙ e)) ∙ g.rest

      pub next : {u : Totals} → b ≡ Ok u → Going t₀ s₀ u more
      next {u} e =
          let l = longer in
          record {
            rest =
                ap (billed_of u) (sym (ap (drop record_length) split ∙ drop_at part more record_length long))
                ∙ sym (billed_taken t s (omega arith) (is_first ∙ e))
                ∙ g.rest;
            cut = let k : length more % record_length ≡ length s % record_length = omega arith in k ∙ g.cut;
          }
