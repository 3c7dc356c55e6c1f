-- What recovers a condition excludes that it holds: so at a tick at which it holds there is no recovery event, even where its latch event
-- stands open.
-- Assumes nothing.
use mathlib.Core.Path.{◌≡◌, refl, sym, ap, ap₂, ◌∙◌}
use mathlib.Core.Bool.{Bool, true, false, ◌&&◌, ◌||◌, not, cond, and-eq-true_iff}
use mathlib.Core.List.{List, [], ◌∷◌}
use Prim.Native.Nat.{ℕ, zero, suc, ◌≤◌, ◌-◌}
use native.Mathlib.Omega.{arith}
use borrow.Author.Tests.{lt-leb}
use lib.Dec.{leb}
use lib.ListN.{length, take}
use Rattle.laws.specs.History.{any, newest, ago}
use Rattle.laws.proofs.Latch.{wrong}
use Rattle.cells.specs.Cells.{extremes_of}
use Rattle.readings.specs.Readings.{connected}
use Rattle.guard.specs.declared.Condition.{Condition}
use Rattle.guard.specs.declared.Condition.TheVariants.{UV, OV, OT, DOC, COC, ROC, LT}
use Rattle.guard.specs.Guard.{cool, holds_of}
use Rattle.guard.specs.Table.{is}
use Rattle.guard.specs.Account.{Moment, wait_of, cool_again, connected_at_any}
use Rattle.guard.specs.Quiet.{sensors_cool}
use Rattle.guard.proofs.Calm.{high_not_low, low_not_high, all_cool_none_hot, all_mild_none_cold}
use Rattle.life.specs.Recorded.{Recorded, latching, held, wait_over, ticks_from, recovery}

contrary : (held recovered : Bool) → (recovered ≡ true → held ≡ false) → held ≡ true → recovered ≡ false
contrary held true f e = wrong (sym (f refl) ∙ e)
contrary held false f e = refl

-- ---- OT: what was connected at any tick since includes what is connected now

module _ (m : Moment) where
  all_cool : (since : List Moment) → cool_again (m ∷ since) ≡ true → sensors_cool m.settings m.readings ≡ true
  all_cool since e =
      let s = m.settings in
      let r = m.readings in
      let seen = connected_at_any (m ∷ since) in
      let x = connected r.external1 && cool s r.external1 in
      let y = connected r.external2 && cool s r.external2 in
      let p = (and-eq-true_iff (cool s r.internal) ((not seen.external1 || x) && (not seen.external2 || y))).0 e in
      let q = (and-eq-true_iff (not seen.external1 || x) (not seen.external2 || y)).0 p.1 in
      ap₂ ◌&&◌ p.0 (ap₂ ◌&&◌ (one (connected r.external1) _ _ q.0) (one (connected r.external2) _ _ q.1))
    where
      one : (here before cool : Bool) → (not (cond here true before) || here && cool) ≡ true → (not here || cool) ≡ true
      one true before cool e = e
      one false before cool e = refl

  cool_not_held : (n : ℕ) (before : List Moment) → cool_again (take n (m ∷ before)) ≡ true → held OT m ≡ false
  unfolding is holds_of
  cool_not_held zero before e = wrong e
  cool_not_held (suc n) before e = all_cool_none_hot m.settings m.readings (all_cool (take n before) e)

  any_cool : (before : List Moment) (latches : List Recorded)
      → any (λ e. cool_again (ticks_from e.tick (m ∷ before))) latches ≡ true → held OT m ≡ false
  any_cool before [] e = wrong e
  any_cool before (l ∷ latches) e = go (cool_again (ticks_from l.tick (m ∷ before))) refl e (any_cool before latches)
    where
      go : (t : Bool) → cool_again (ticks_from l.tick (m ∷ before)) ≡ t
          → cond t true (any (λ e. cool_again (ticks_from e.tick (m ∷ before))) latches) ≡ true
          → (any (λ e. cool_again (ticks_from e.tick (m ∷ before))) latches ≡ true → held OT m ≡ false) → held OT m ≡ false
      go true f e others = cool_not_held (suc (length (m ∷ before)) - l.tick) before f
      go false f e others = others e

  -- ---- a wait that begins anew is not over

  waiting : (c : Condition) (before : List Moment) → 1 ≤ m.settings.r332 → held c m ≡ true → wait_over c (m ∷ before) ≡ false
  waiting c before some e =
      ap (λ (t : Bool). any (λ x. leb (wait_of x) (cond t 0 (suc (ago (held c) before)))) (cond t (m ∷ []) (newest (held c) before))) e
      ∙ rw (lt-leb (wait_of m) 0 (omega arith)) refl

-- ---- all seven

pub excluded : (m : Moment) (before : List Moment) (events : List Recorded) → 1 ≤ m.settings.r332 → (c : Condition)
    → held c m ≡ true → recovery m before events c ≡ false
unfolding recovery is holds_of
excluded m before events some UV = contrary _ _ (high_not_low m.settings (extremes_of m.cells))
excluded m before events some OV = contrary _ _ (low_not_high m.settings (extremes_of m.cells))
excluded m before events some OT = contrary _ _ (any_cool m before (newest (latching OT) events))
excluded m before events some DOC = waiting m DOC before some
excluded m before events some COC = waiting m COC before some
excluded m before events some ROC = waiting m ROC before some
excluded m before events some LT = contrary _ _ (all_mild_none_cold m.settings m.readings)
