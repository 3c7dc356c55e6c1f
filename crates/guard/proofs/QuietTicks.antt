-- After 300 quiet ticks in a row nothing is latched (30 s is the longest wait), no wait is left and no sensor is remembered.
-- Assumes nothing.
use mathlib.Core.Path.{◌≡◌, refl, sym, ap, ◌∙◌}
use mathlib.Core.Bool.{Bool, true, false, cond, and-eq-true_iff, and-false}
use mathlib.Core.List.{List, [], ◌∷◌}
use Prim.Native.Nat.{ℕ, zero, suc, ◌-◌, ◌≤◌}
use native.Mathlib.Omega.{arith}
use lib.Dec.{ltb}
use lib.ListN.{take}
use Rattle.laws.specs.History.{some, stands, waits, pour}
use Rattle.laws.proofs.Lists.{timer, waited}
use Rattle.cells.specs.Cells.{extremes_of}
use Rattle.guard.specs.Guard.{cells_high_enough, cells_low_enough, externals_mild, with_connected, no_waits, no_guard, latch_of, recovers_of}
use Rattle.guard.specs.Account.{Moment, holds, wait_of, connected_at_any, since_hot, left_of, latched_from, waits_from, remembered_from}
use Rattle.guard.specs.Account.{guard_from}
use Rattle.guard.specs.Quiet.{quiet, all_quiet}
use Rattle.guard.proofs.Account.{hot_next}
use Rattle.guard.proofs.Calm.{Recovered, Idle, recovered, idle}

-- every wait is at most 300 ticks
unfoldable pub Bounded : List Moment → Type 0
Bounded [] = Unit {0}
Bounded (m ∷ ms) = (wait_of m ≤ 300) × Bounded ms

abbrev Quiet : Moment → Type 0
Quiet m = quiet m.settings m.readings (extremes_of m.cells) ≡ true

-- ---- what a quiet moment does

nothing_holds : (m : Moment) → Quiet m → Idle (holds m)
nothing_holds m q = idle m.settings m.readings (extremes_of m.cells) q

-- whatever is remembered when it comes
all_recovers : (m : Moment) → Quiet m → (ms : List Moment)
    → Recovered (recovers_of m.settings m.readings (extremes_of m.cells) no_waits (with_connected (connected_at_any ms) m.readings))
all_recovers m q ms = recovered m.settings m.readings (extremes_of m.cells) q no_waits _

newest_quiet : (n : ℕ) (m : Moment) (ms : List Moment) → all_quiet (take (suc n) (m ∷ ms)) ≡ true → Quiet m
newest_quiet n m ms q = ((and-eq-true_iff (quiet m.settings m.readings (extremes_of m.cells)) (all_quiet (take n ms))).0 q).0

-- ---- a condition that recovers by readings is recovered at the newest; where there was no tick, nothing held

module _ (held back : Moment → Bool) (at-quiet : (m : Moment) → Quiet m → (held m ≡ false) × (back m ≡ true)) where
  recovers_at_once : (n : ℕ) (ms : List Moment) → all_quiet (take (suc n) ms) ≡ true → stands held back ms ≡ false
  recovers_at_once n [] q = refl
  recovers_at_once n (m ∷ ms) q = let p = at-quiet m (newest_quiet n m ms q) in rw (p.0, p.1) refl

hot_no_more : (n : ℕ) (ms : List Moment) → all_quiet (take (suc n) ms) ≡ true → since_hot ms ≡ []
unfolding recovers_of
hot_no_more n [] q = refl
hot_no_more n (m ∷ ms) q =
    let here = newest_quiet n m ms q in
    hot_next m ms ∙ gone _ _ (nothing_holds m here).ot (all_recovers m here (since_hot ms)).ot
  where
    gone : (h r : Bool) → h ≡ false → r ≡ true → cond (latch_of (some (since_hot ms)) h r) (m ∷ since_hot ms) [] ≡ []
    gone h r e f = rw (e, f, and-false (some (since_hot ms))) refl

-- ---- a timer falls by one at each tick at which its condition does not hold

module _ (held : Moment → Bool) (Idle-then : (m : Moment) → Quiet m → held m ≡ false) where
  left : List Moment → ℕ
  left ms = pour (λ n m. cond (held m) (wait_of m) (n - 1)) 0 ms

  falls : (n : ℕ) (ms : List Moment) → Bounded ms → all_quiet (take n ms) ≡ true → left ms ≤ 300 - n
  unfolding left Bounded
  falls n [] b q = omega arith
  falls zero (m ∷ ms) b q = go (held m) (falls zero ms b.1 refl)
    where
      go : (t : Bool) → left ms ≤ 300 - 0 → cond t (wait_of m) (left ms - 1) ≤ 300 - 0
      go true h = let w = b.0 in omega arith
      go false h = omega arith
  falls (suc n) (m ∷ ms) b q =
      let p = (and-eq-true_iff (quiet m.settings m.readings (extremes_of m.cells)) (all_quiet (take n ms))).0 q in
      let h = falls n ms b.1 p.1 in
      rw (Idle-then m p.0) (omega arith)

  over : (ms : List Moment) → Bounded ms → all_quiet (take 300 ms) ≡ true → left ms ≡ 0
  over ms b q = let h = falls 300 ms b q in omega arith

  none_left : (ms : List Moment) → Bounded ms → all_quiet (take 300 ms) ≡ true → left_of held ms ≡ 0
  unfolding left
  none_left ms b q = sym (timer held wait_of ms) ∙ over ms b q

  waits_over : (ms : List Moment) → Bounded ms → all_quiet (take 300 ms) ≡ true → waits held wait_of ms ≡ false
  unfolding left
  waits_over ms b q = sym (waited held wait_of ms) ∙ ap (ltb 0) (over ms b q)

-- ---- after 300 quiet ticks

pub stilled : (ms : List Moment) → Bounded ms → all_quiet (take 300 ms) ≡ true → guard_from ms ≡ no_guard
unfolding latched_from waits_from remembered_from recovers_of
stilled ms b q =
    let hot = hot_no_more 299 ms q in
    let uv = recovers_at_once (λ m. (holds m).uv) (λ m. cells_high_enough m.settings (extremes_of m.cells)) (λ m q.
    ((nothing_holds m q).uv, (all_recovers m q []).uv)) 299 ms q in
    let ov = recovers_at_once (λ m. (holds m).ov) (λ m. cells_low_enough m.settings (extremes_of m.cells)) (λ m q.
    ((nothing_holds m q).ov, (all_recovers m q []).ov)) 299 ms q in
    let lt = recovers_at_once (λ m. (holds m).lt) (λ m. externals_mild m.settings m.readings) (λ m q.
    ((nothing_holds m q).lt, (all_recovers m q []).lt)) 299 ms q in
    let doc = waits_over (λ m. (holds m).doc) (λ m q. (nothing_holds m q).doc) ms b q in
    let coc = waits_over (λ m. (holds m).coc) (λ m q. (nothing_holds m q).coc) ms b q in
    let roc = waits_over (λ m. (holds m).roc) (λ m q. (nothing_holds m q).roc) ms b q in
    λ i. record {
      latched = record { uv = uv i; ov = ov i; ot = some (hot i); doc = doc i; coc = coc i; roc = roc i; lt = lt i };
      waits =
          record {
            doc = none_left (λ m. (holds m).doc) (λ m q. (nothing_holds m q).doc) ms b q i;
            coc = none_left (λ m. (holds m).coc) (λ m q. (nothing_holds m q).coc) ms b q i;
            roc = none_left (λ m. (holds m).roc) (λ m q. (nothing_holds m q).roc) ms b q i;
          };
      remembered = connected_at_any (hot i);
    }
