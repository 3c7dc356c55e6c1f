-- The guard that the ticks so far tell of, with no timer and no memory, is the one that is stepped tick by tick; a sensor is remembered
-- only while OT is latched. Assumes nothing.
use mathlib.Core.Path.{◌≡◌, refl, ap, ap₂, ◌∙◌}
use mathlib.Core.Bool.{Bool, true, false, ◌&&◌, ◌||◌, not, cond, and-eq-true_iff}
use mathlib.Core.List.{List, [], ◌∷◌}
use Prim.Native.Nat.{ℕ, suc, ◌≤◌}
use native.Mathlib.Omega.{arith}
use lib.ListN.{take}
use Rattle.laws.specs.History.{some, any}
use Rattle.laws.proofs.Lists.{any_of_more}
use Rattle.laws.proofs.Later.{stands_next, left_next, waits_next, since_next}
use Rattle.cells.specs.Cells.{extremes_of}
use Rattle.settings.specs.declared.Settings.{Settings}
use Rattle.readings.specs.declared.Readings.{Readings}
use Rattle.readings.specs.Readings.{connected}
use Rattle.guard.specs.declared.Remembered.{Remembered}
use Rattle.guard.specs.Guard.{cool, cells_high_enough, cells_low_enough, externals_mild, with_connected, remembered_cool, while_latched}
use Rattle.guard.specs.Guard.{none_remembered, waits_of, recovers_of, latch_of, latched_of, guard_of}
use Rattle.guard.specs.Account.{Moment, holds, wait_of, connected_at_any, cool_again, since_hot, latched_from, waits_from, remembered_from}
use Rattle.guard.specs.Account.{guard_from}

-- ---- who remembers less recovers no later

module _ (s : Settings) (r : Readings) (less more : Remembered) where
  one : (a c x : Bool) → (a ≡ true → c ≡ true) → (not c || x) ≡ true → (not a || x) ≡ true
  one false c x f e = refl
  one true c x f e = rw (f refl) at e

  less_recovers : (less.external1 ≡ true → more.external1 ≡ true) → (less.external2 ≡ true → more.external2 ≡ true)
      → remembered_cool s r more ≡ true → remembered_cool s r less ≡ true
  less_recovers f g e =
      let x = connected r.external1 && cool s r.external1 in
      let y = connected r.external2 && cool s r.external2 in
      let p = (and-eq-true_iff (cool s r.internal) ((not more.external1 || x) && (not more.external2 || y))).0 e in
      let q = (and-eq-true_iff (not more.external1 || x) (not more.external2 || y)).0 p.1 in
      ap₂ ◌&&◌ p.0 (ap₂ ◌&&◌ (one less.external1 more.external1 x f q.0) (one less.external2 more.external2 y g q.1))

fewer : (m : Moment) (i n : ℕ) (ms : List Moment) → i ≤ n → cool_again (m ∷ take n ms) ≡ true → cool_again (m ∷ take i ms) ≡ true
fewer m i n ms l =
    less_recovers m.settings m.readings (connected_at_any (m ∷ take i ms)) (connected_at_any (m ∷ take n ms))
    (any_of_more (λ m. connected m.readings.external1) (suc i) (suc n) (m ∷ ms) (omega arith))
    (any_of_more (λ m. connected m.readings.external2) (suc i) (suc n) (m ∷ ms) (omega arith))

-- ---- OT, one tick later

joined : (m : Moment) (ms : List Moment) → connected_at_any (m ∷ ms) ≡ with_connected (connected_at_any ms) m.readings
joined m ms = λ i. record {
  external1 = or (connected m.readings.external1) (any (λ m. connected m.readings.external1) ms) i;
  external2 = or (connected m.readings.external2) (any (λ m. connected m.readings.external2) ms) i;
}
  where
    or : (a b : Bool) → cond a true b ≡ (a || b)
    or true b = refl
    or false b = refl

module _ (m : Moment) (ms : List Moment) where
  abbrev recovers : Bool
  recovers = remembered_cool m.settings m.readings (with_connected (connected_at_any (since_hot ms)) m.readings)

  abbrev stays : Bool
  stays = latch_of (some (since_hot ms)) (holds m).ot recovers

  pub hot_next : since_hot (m ∷ ms) ≡ cond stays (m ∷ since_hot ms) []
  hot_next =
      since_next (λ m. (holds m).ot) cool_again fewer m ms
      ∙ ap (λ (seen : Remembered). cond (latch_of (some (since_hot ms)) (holds m).ot (remembered_cool m.settings m.readings seen)) (m
      ∷ since_hot ms) []) (joined m (since_hot ms))

  ot_next : some (since_hot (m ∷ ms)) ≡ stays
  ot_next = ap some hot_next ∙ go stays
    where
      go : (b : Bool) → some (cond b (m ∷ since_hot ms) []) ≡ b
      go true = refl
      go false = refl

  remembered_next : connected_at_any (since_hot (m ∷ ms)) ≡ while_latched stays (with_connected (connected_at_any (since_hot ms)) m.readings)
  remembered_next = ap connected_at_any hot_next ∙ go stays ∙ ap (while_latched stays) (joined m (since_hot ms))
    where
      go : (b : Bool) → connected_at_any (cond b (m ∷ since_hot ms) []) ≡ while_latched b (connected_at_any (m ∷ since_hot ms))
      go true = refl
      go false = refl

-- ---- the guard, one tick later

pub guard_next : (m : Moment) (ms : List Moment) → 1 ≤ m.settings.r332
    → guard_from (m ∷ ms) ≡ guard_of (guard_from ms) m.settings m.readings (extremes_of m.cells)
unfolding guard_of latched_from waits_from remembered_from latched_of waits_of recovers_of
guard_next m ms enough =
    let long : 1 ≤ wait_of m = omega arith in
    λ i. record {
      latched =
          record {
            uv = stands_next (λ m. (holds m).uv) (λ m. cells_high_enough m.settings (extremes_of m.cells)) m ms i;
            ov = stands_next (λ m. (holds m).ov) (λ m. cells_low_enough m.settings (extremes_of m.cells)) m ms i;
            ot = ot_next m ms i;
            doc = waits_next (λ m. (holds m).doc) wait_of m ms long i;
            coc = waits_next (λ m. (holds m).coc) wait_of m ms long i;
            roc = waits_next (λ m. (holds m).roc) wait_of m ms long i;
            lt = stands_next (λ m. (holds m).lt) (λ m. externals_mild m.settings m.readings) m ms i;
          };
      waits =
          record {
            doc = left_next (λ m. (holds m).doc) wait_of m ms i;
            coc = left_next (λ m. (holds m).coc) wait_of m ms i;
            roc = left_next (λ m. (holds m).roc) wait_of m ms i;
          };
      remembered = remembered_next m ms i;
    }

-- ---- while OT is not latched the memory is empty

pub empty_memory : (ms : List Moment) → (latched_from ms).ot ≡ false → remembered_from ms ≡ none_remembered
unfolding latched_from remembered_from
empty_memory ms e = ap connected_at_any (go (since_hot ms) e)
  where
    go : (since : List Moment) → some since ≡ false → since ≡ []
    go [] e = refl
    go (m ∷ since) e = absurd (let z : ◌≡◌ {A = ℕ} 0 1 = cc in omega arith)
