-- A quiet tick recovers UV, OV, OT and LT, and none of the seven conditions holds at it: what recovers a condition excludes that it
-- holds, for all values.
-- Assumes nothing.
use mathlib.Core.Path.{◌≡◌, refl, sym, ap₂, subst}
use mathlib.Core.Bool.{Bool, true, false, ◌&&◌, ◌||◌, not, cond, and-eq-true_iff, or-true}
use mathlib.Core.List.{List, [], ◌∷◌}
use Prim.Native.Nat.{ℕ, suc, ◌+◌, ◌*◌, ◌-◌}
use native.Mathlib.Omega.{arith}
use borrow.Author.Tests.{leb-true, ltb-true, not-true}
use lib.Dec.{T, ltb, le→leb}
use lib.IntN.{ℤ, pos, negsuc, ◌+ℤ◌, ◌-ℤ◌, ◌*ℤ◌, -ℤ-+ℤ_cancel}
use lib.Signed.{le_z, lt_z, ◌≤ℤ◌, le_z_yes, lt_z_yes, <ℤ-≤ℤ_trans, clash_ℤ, ≤ℤ_refl}
use Rattle.cells.specs.declared.Extremes.{Extremes}
use Rattle.settings.specs.declared.Settings.{Settings}
use Rattle.readings.specs.declared.Readings.{Readings}
use Rattle.readings.specs.Readings.{connected}
use Rattle.guard.specs.declared.Conditions.{Conditions}
use Rattle.guard.specs.declared.Waits.{Waits}
use Rattle.guard.specs.declared.Remembered.{Remembered}
use Rattle.guard.specs.Guard.{cell_too_low, cells_high_enough, cell_too_high, cells_low_enough, hot, cool, cold, mild, some_external}
use Rattle.guard.specs.Guard.{all_externals, sensor_hot, remembered_cool, external_cold, externals_mild, holds_of, recovers_of}
use Rattle.guard.specs.Quiet.{quiet, sensors_cool}

-- ---- what recovers a condition excludes that it holds

not_both : (t : Bool) → (t ≡ true → ⊥) → t ≡ false
not_both true f = absurd (f refl)
not_both false f = refl

pub high_not_low : (s : Settings) (e : Extremes) → cells_high_enough s e ≡ true → cell_too_low s e ≡ false
high_not_low s e h = not_both (cell_too_low s e) (λ l. omega (arith, leb-true, ltb-true))

pub low_not_high : (s : Settings) (e : Extremes) → cells_low_enough s e ≡ true → cell_too_high s e ≡ false
low_not_high s e h = not_both (cell_too_high s e) (λ l. omega (arith, leb-true, ltb-true))

-- in whole numbers
up : (z : ℤ) (n : ℕ) → z ≤ℤ (z +ℤ pos n)
up (pos a) n = le_z_yes (le→leb a (a + n) (omega arith))
up (negsuc a) n = le_z_yes (go (ltb n (suc a)))
  where
    go : (less : Bool) → T (le_z (negsuc a) (cond less (negsuc (suc a - suc n)) (pos (n - suc a))))
    go true = le→leb (suc a - suc n) a (omega arith)
    go false = tt

down : (z : ℤ) (n : ℕ) → (z -ℤ pos n) ≤ℤ z
down z n = rw (-ℤ-+ℤ_cancel z (pos n)) at (up (z -ℤ pos n) n)

-- a < b, with a at least a' and b at most b', excludes b' ≤ a'
excluded : (a b a' b' : ℤ) → a' ≤ℤ a → b ≤ℤ b' → lt_z a b ≡ true → le_z b' a' ≡ false
excluded a b a' b' p q h =
    not_both (le_z b' a') (λ l. clash_ℤ (<ℤ-≤ℤ_trans (<ℤ-≤ℤ_trans (lt_z_yes {a = a} {b = b} (subst T (sym h) tt)) q)
    (le_z_yes {a = b'} {b = a'} (subst T (sym l) tt))) p)

pub cool_not_hot : (s : Settings) (t : ℤ) → cool s t ≡ true → hot s t ≡ false
cool_not_hot s t = excluded t (pos (10 * s.r319) -ℤ pos 50) t (pos (10 * s.r319)) (≤ℤ_refl t) (down (pos (10 * s.r319)) 50)

pub mild_not_cold : (s : Settings) (t : ℤ) → mild s t ≡ true → cold s t ≡ false
mild_not_cold s t = excluded (pos 10 *ℤ s.r320 +ℤ pos 50) t (pos 10 *ℤ s.r320) t (up (pos 10 *ℤ s.r320) 50) (≤ℤ_refl t)

-- of all connected sensors
module _ (good bad : ℤ → Bool) (apart : (t : ℤ) → good t ≡ true → bad t ≡ false) where
  one : (c : Bool) (t : ℤ) → (not c || good t) ≡ true → (c && bad t) ≡ false
  one true t h = apart t h
  one false t h = refl

  none : (r : Readings) → all_externals good r ≡ true → some_external bad r ≡ false
  none r h =
      let p = (and-eq-true_iff (not (connected r.external1) || good r.external1) (not (connected r.external2)
      || good r.external2)).0 h in
      rw (one (connected r.external1) r.external1 p.0) (one (connected r.external2) r.external2 p.1)

pub all_cool_none_hot : (s : Settings) (r : Readings) → sensors_cool s r ≡ true → sensor_hot s r ≡ false
all_cool_none_hot s r h =
    let p = (and-eq-true_iff (cool s r.internal) (all_externals (cool s) r)).0 h in
    rw (cool_not_hot s r.internal p.0) (none (cool s) (hot s) (cool_not_hot s) r p.1)

pub all_mild_none_cold : (s : Settings) (r : Readings) → externals_mild s r ≡ true → external_cold s r ≡ false
all_mild_none_cold s r h =
    let p = (and-eq-true_iff (connected r.external1 || connected r.external2) (all_externals (mild s) r)).0 h in
    none (mild s) (cold s) (mild_not_cold s) r p.1

-- where both externals are connected and all are cool, each that may be remembered is connected and cool
pub all_cool_again : (s : Settings) (r : Readings) (m : Remembered) → connected r.external1 ≡ true → connected r.external2 ≡ true
    → sensors_cool s r ≡ true → remembered_cool s r m ≡ true
all_cool_again s r m e f h =
    let p = (and-eq-true_iff (cool s r.internal) (all_externals (cool s) r)).0 h in
    let q = (and-eq-true_iff (not (connected r.external1) || cool s r.external1) (not (connected r.external2)
    || cool s r.external2)).0 p.1 in
    ap₂ ◌&&◌ p.0 (ap₂ ◌&&◌ (one m.external1 _ _ e q.0) (one m.external2 _ _ f q.1))
  where
    one : (m c t : Bool) → c ≡ true → (not c || t) ≡ true → (not m || c && t) ≡ true
    one m true true e f = or-true (not m)
    one m true false e f = absurd (let z : ◌≡◌ {A = ℕ} 0 1 = cc in omega arith)
    one m false t e f = absurd (let z : ◌≡◌ {A = ℕ} 0 1 = cc in omega arith)

-- ---- a quiet tick

-- the parts of a conjunction
all : Bool → List Bool → Bool
all a [] = a
all a (b ∷ bs) = all (a && b) bs

Each : List Bool → Type 0
Each [] = Unit {0}
Each (b ∷ bs) = (b ≡ true) × Each bs

each : (a : Bool) (bs : List Bool) → all a bs ≡ true → (a ≡ true) × Each bs
unfolding all Each
each a [] h = (h, tt)
each a (b ∷ bs) h =
    let rest = each (a && b) bs h in
    let p = (and-eq-true_iff a b).0 rest.0 in
    (p.0, (p.1, rest.1))

pub record Recovered (c : Conditions) : Type 0 where
  pub uv : c.uv ≡ true
  pub ov : c.ov ≡ true
  pub ot : c.ot ≡ true
  pub lt : c.lt ≡ true

pub record Idle (c : Conditions) : Type 0 where
  pub uv : c.uv ≡ false
  pub ov : c.ov ≡ false
  pub ot : c.ot ≡ false
  pub doc : c.doc ≡ false
  pub coc : c.coc ≡ false
  pub roc : c.roc ≡ false
  pub lt : c.lt ≡ false

asked : Settings → Readings → Extremes → List Bool
asked s r e =
    connected r.external2 ∷ cells_high_enough s e ∷ cells_low_enough s e ∷ sensors_cool s r ∷ externals_mild s r ∷ not (holds_of s r e).doc
    ∷ not (holds_of s r e).coc ∷ not (holds_of s r e).roc ∷ []

module _ (s : Settings) (r : Readings) (e : Extremes) (q : quiet s r e ≡ true) where
  parts : (connected r.external1 ≡ true) × Each (asked s r e)
  unfolding quiet all asked
  parts = each (connected r.external1) (asked s r e) q

  pub recovered : (left : Waits) (m : Remembered) → Recovered (recovers_of s r e left m)
  unfolding recovers_of Each asked
  recovered left m =
      let p = parts.1.1 in
      record { uv = p.0; ov = p.1.0; ot = all_cool_again s r m parts.0 parts.1.0 p.1.1.0; lt = p.1.1.1.0 }

  pub idle : Idle (holds_of s r e)
  unfolding holds_of Each asked
  idle =
      let p = parts.1.1 in
      let none_of = p.1.1.1.1 in
      record {
        uv = high_not_low s e p.0;
        ov = low_not_high s e p.1.0;
        ot = all_cool_none_hot s r p.1.1.0;
        doc = not-true _ none_of.0;
        coc = not-true _ none_of.1.0;
        roc = not-true _ none_of.1.1.0;
        lt = all_mild_none_cold s r p.1.1.1.0;
      }
