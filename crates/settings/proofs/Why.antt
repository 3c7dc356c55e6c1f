-- Why values are refused (W-208): the register that is told is the lowest whose value is outside its range, and the ordering rule is told
-- exactly where every value is in its range. By the registers from the lowest on. Assumes nothing.
use mathlib.Core.Path.{◌≡◌, refl, sym, ap, ◌∙◌, subst⁻¹}
use mathlib.Core.Bool.{Bool, true, false, not, cond, false≢true}
use mathlib.Core.Logic.{◌↔◌}
use mathlib.Core.List.{List}
use Prim.Native.Nat.{ℕ, zero, suc, ◌+◌, ◌<◌, ◌≤◌}
use native.Mathlib.Omega.{arith}
use borrow.Author.Tests.{eqb-true, eqb-false}
use lib.Dec.{eqb}
use Rattle.laws.specs.History.{any}
use Rattle.refusals.specs.declared.Refusal.TheVariants.{OutOfRange, OutOfOrder}
use Rattle.refusals.specs.Refusals.{Done, Refused, number_of, register_of, is_done, first}
use Rattle.settings.specs.Settings.{up_from, registers, value_in, settings_of, is_out, lowest, ordered, judged_of}
use Rattle.settings.proofs.Drafts.{AllFit, none_out}

-- ---- the lowest of n numbers from one on

pub record Lowest (applies : ℕ → Bool) (start n at : ℕ) : Type 0 where
  pub least : start ≤ at
  pub most : at < start + n
  pub here : applies at ≡ true
  pub below : (other : ℕ) → start ≤ other → other < at → applies other ≡ false

found : (applies : ℕ → Bool) (n start : ℕ) → any applies (up_from start n) ≡ true
    → Lowest applies start n (lowest applies (up_from start n))
found applies zero start e = absurd (false≢true e)
found applies (suc n) start e = go (applies start) refl e (found applies n (suc start))
  where
    go : (t : Bool) → applies start ≡ t → cond t true (any applies (up_from (suc start) n)) ≡ true
        → (any applies (up_from (suc start) n) ≡ true → Lowest applies (suc start) n (lowest applies (up_from (suc start) n)))
        → Lowest applies start (suc n) (cond t start (lowest applies (up_from (suc start) n)))
    go true here e later =
        record { least = omega arith; most = omega arith; here = here; below = λ other l m. absurd (omega arith) }
    go false here e later =
        let f = later e in
        record {
          least = omega (arith, f.least);
          most = omega (arith, f.most);
          here = f.here;
          below = λ other l m. step other l (eqb start other) refl (λ k. f.below other k m);
        }
      where
        -- the first, which does not apply, or a later one
        step : (other : ℕ) → start ≤ other → (u : Bool) → eqb start other ≡ u → (suc start ≤ other → applies other ≡ false)
            → applies other ≡ false
        step other l true e later = ap applies (sym (eqb-true start other e)) ∙ here
        step other l false e later = later (let other = eqb-false start other e in omega (arith, other))

-- ---- what is told

module _ (values : List ℕ) where
  pub told_44 : (at : ℕ) → judged_of values ≡ Refused (OutOfRange at) → Lowest (is_out values) 300 100 at
  unfolding judged_of first registers
  told_44 at = go (any (is_out values) registers) refl (ordered (settings_of values))
    where
      go : (t : Bool) → any (is_out values) registers ≡ t → (u : Bool)
          → cond t (Refused (OutOfRange (lowest (is_out values) registers))) (cond (not u) (Refused OutOfOrder) Done) ≡ Refused (OutOfRange at)
          → Lowest (is_out values) 300 100 at
      go true e u same = subst⁻¹ (Lowest (is_out values) 300 100) (sym (ap register_of same)) (found (is_out values) 100 300 e)
      go false e true same = let z : true ≡ false = ap is_done same in absurd (false≢true (sym z))
      go false e false same = let z : ◌≡◌ {A = ℕ} 45 44 = ap number_of same in absurd (omega arith)

  pub told_45 : (judged_of values ≡ Refused OutOfOrder) ↔ (AllFit (value_in values) × (ordered (settings_of values) ≡ false))
  unfolding judged_of first
  told_45 = (
    go (any (is_out values) registers) refl (ordered (settings_of values)) refl,
    λ h. rw ((none_out values).1 h.0, h.1) refl,
  )
    where
      go : (t : Bool) → any (is_out values) registers ≡ t → (u : Bool) → ordered (settings_of values) ≡ u
          → cond t (Refused (OutOfRange (lowest (is_out values) registers))) (cond (not u) (Refused OutOfOrder) Done) ≡ Refused OutOfOrder
          → AllFit (value_in values) × (u ≡ false)
      go true e u o same = let z : ◌≡◌ {A = ℕ} 44 45 = ap number_of same in absurd (omega arith)
      go false e true o same = let z : true ≡ false = ap is_done same in absurd (false≢true (sym z))
      go false e false o same = ((none_out values).0 e, refl)
