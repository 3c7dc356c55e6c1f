-- One tick more: what the account of each part then says is what a tick makes of that part, by one law of lists for each kind of part.
-- Assumes nothing.
use mathlib.Core.Path.{◌≡◌, refl, sym, ap, ◌∙◌}
use mathlib.Core.Bool.{Bool, true, false, ◌&&◌, ◌||◌, not, cond, or-false}
use mathlib.Core.List.{List, [], ◌∷◌, ◌++◌, map, reverse, append-nil, append_assoc}
use Prim.Native.Nat.{ℕ, suc, ◌+◌, ◌-◌, ◌/◌, ◌%◌, ◌≤◌, min, max}
use native.Mathlib.Omega.{arith}
use borrow.Author.Tests.{ltb-true, ltb-false}
use lib.Dec.{eqb, ltb}
use lib.IntN.{ℤ}
use lib.ListN.{length}
use Rattle.laws.specs.Fold.{bit_of, shifted}
use Rattle.laws.specs.History.{since, from, each, count, largest, some, latest, pour}
use Rattle.laws.proofs.Lists.{pour_append, pushed}
use Rattle.cells.specs.Cells.{extremes_of}
use Rattle.events.specs.declared.Event.{Event}
use Rattle.events.specs.declared.Events.{Events}
use Rattle.events.specs.Events.{capacity, event_at, no_event, add_of}
use Rattle.guard.specs.declared.Condition.TheVariants.{UV, OV, OT, DOC, COC, ROC}
use Rattle.guard.specs.declared.Guard.{Guard}
use Rattle.guard.specs.Guard.{guard_of}
use Rattle.guard.specs.Table.{is}
use Rattle.guard.proofs.Account as guard
use Rattle.readings.specs.declared.Readings.{Readings}
use Rattle.readings.specs.Readings.{connected}
use Rattle.signed.specs.Signed.{above, below, lower_of, higher_of}
use Rattle.statistics.specs.declared.Temperatures.{Temperatures}
use Rattle.statistics.specs.Statistics.{hundreds, count_of, counts_of, with_external, ridden_of, counted_of, summed_of, largest_sum}
use Rattle.pack.specs.declared.Clock.{Clock}
use Rattle.pack.specs.Pack.{later_of}
use Rattle.hire.specs.Tick.{events_of, recorded_of, recorded_all}
use Rattle.board.specs.Account.{Deed, took, clears, hands, ticking, moment_of, moments_at, settings_at, count_at, seconds_at, clock_at}
use Rattle.board.specs.Account.{latched_at, waits_at, remembered_at, window_at, charger_at, status_at, some_event, newest_first, numbers_of}
use Rattle.board.specs.Account.{recorded_now, forgets, loading, kept_since, new_since, events_at, latchings, entering, externals}
use Rattle.board.specs.Account.{coldest_of, hottest_of, temperatures_of, pulses_at, positive_at, negative_at, statistics_at}

-- ---- time
clock_same : {a b c d : ℕ} → a ≡ b → c ≡ d → ◌≡◌ {A = Clock} (record { seconds = a; tenths = c }) (record { seconds = b; tenths = d })
clock_same p q = λ i. record { seconds = p i; tenths = q i }

abbrev clock_of : ℕ → Clock
clock_of n = record { seconds = min 4294967295 (n / 10); tenths = min 42949672959 n % 10 }

later : (n : ℕ) → clock_of (suc n) ≡ later_of (clock_of n)
unfolding later_of
later n = go (ltb (min 42949672959 n % 10) 9) refl (ltb (min 4294967295 (n / 10)) 4294967295) refl
  where
    go : (s : Bool) → ltb (min 42949672959 n % 10) 9 ≡ s → (t : Bool) → ltb (min 4294967295 (n / 10)) 4294967295 ≡ t
        → clock_of (suc n)
        ≡ cond s (record { seconds = min 4294967295 (n / 10); tenths = min 42949672959 n % 10 + 1 })
        (cond t (record { seconds = min 4294967295 (n / 10) + 1; tenths = 0 }) (clock_of n))
    go true e t f = clock_same (omega (arith, ltb-true)) (omega (arith, ltb-true))
    go false e true f = clock_same (omega (arith, ltb-false, ltb-true)) (omega (arith, ltb-false, ltb-true))
    go false e false f = clock_same (omega (arith, ltb-false)) (omega (arith, ltb-false))

pub clock_next : (cells : List ℕ) (r : Readings) (h : List Deed) → clock_at (took cells r ∷ h) ≡ later_of (clock_at h)
unfolding clock_at seconds_at
clock_next cells r h = later (count_at h)

-- ---- the guard
abbrev pub guard_at : List Deed → Guard
guard_at h = record { latched = latched_at h; waits = waits_at h; remembered = remembered_at h }

pub guard_next : (cells : List ℕ) (r : Readings) (h : List Deed) → 1 ≤ (settings_at h).r332
    → guard_at (took cells r ∷ h) ≡ guard_of (guard_at h) (settings_at h) r (extremes_of cells)
unfolding latched_at waits_at remembered_at
guard_next cells r h enough = guard.guard_next (moment_of (settings_at h) (cells, r)) (moments_at h) enough

-- ---- the window
pub window_next : (cells : List ℕ) (r : Readings) (h : List Deed) → window_at (took cells r ∷ h) ≡ shifted (window_at h) r.pulses
unfolding window_at
window_next cells r h = sym (pushed 9 0 r.pulses (map (λ t. t.1.pulses) (each ticking (since hands h))))

-- ---- events: one after the other, those that there are
abbrev listed : List Event → List Event → Events
listed ks us = record { list = latest capacity no_event ks; kept = min capacity (length ks); unsent = min capacity (length us) }

module _ (seconds : ℕ) where
  abbrev add : Events → ℕ → Events
  add e number = add_of e seconds number

  added : (ns : List ℕ) (ks us : List Event)
      → listed (map (event_at seconds) ns ++ ks) (map (event_at seconds) ns ++ us) ≡ pour add (listed ks us) ns
  unfolding add_of
  added [] ks us = refl
  added (n ∷ ns) ks us = next (map (event_at seconds) ns ++ ks) (map (event_at seconds) ns ++ us) ∙ ap (λ e. add e n) (added ns ks us)
    where
      next : (ks us : List Event) → listed (event_at seconds n ∷ ks) (event_at seconds n ∷ us) ≡ add_of (listed ks us) seconds n
      next ks us =
          let up : (m : ℕ) → min capacity (suc m) ≡ min capacity (min capacity m + 1) = λ m. omega arith in
          λ i. record {
            list = sym (pushed (capacity - 1) no_event (event_at seconds n) ks) i;
            kept = up (length ks) i;
            unsent = up (length us) i;
          }

  one : (e : Events) (n : ℕ) → recorded_of seconds e n ≡ pour add e (some_event n)
  one e n = go (eqb n 0)
    where
      go : (t : Bool) → cond t e (add e n) ≡ pour add e (cond t [] (n ∷ []))
      go true = refl
      go false = refl

  all : (ns : List ℕ) (e : Events) → recorded_all seconds e ns ≡ pour add e (newest_first ns)
  unfolding recorded_all
  all [] e = refl
  all (n ∷ ns) e =
      all ns (recorded_of seconds e n) ∙ ap (λ (k : Events). pour add k (newest_first ns)) (one e n)
      ∙ sym (pour_append add e (newest_first ns) (some_event n))

pub events_next : (cells : List ℕ) (r : Readings) (h : List Deed)
    → events_at (took cells r ∷ h)
    ≡ recorded_all (seconds_at (took cells r ∷ h)) (events_at h)
    (events_of (charger_at h) r.charger (latched_at h) (latched_at (took cells r ∷ h)))
unfolding events_at
events_next cells r h =
    let s = seconds_at (took cells r ∷ h) in
    let ns = numbers_of (latched_at h) (latched_at (took cells r ∷ h)) (charger_at h) r.charger in
    let es = map (event_at s) ns in
    let recorded = each recorded_now (since forgets h) in
    let before = reverse (loading (from forgets h)) in
    ap (λ (es : List Event). listed (es ++ recorded ++ before) (es ++ new_since h)) (append-nil es)
    ∙ ap (λ (ks : List Event). listed ks (es ++ new_since h)) (append_assoc es recorded before)
    ∙ added s ns (kept_since h) (new_since h)
    ∙ sym (all s (events_of (charger_at h) r.charger (latched_at h) (latched_at (took cells r ∷ h))) (events_at h))

-- ---- statistics
external_next : (x : ℤ) (ts : List ℤ) → temperatures_of (cond (connected x) (x ∷ []) [] ++ ts) ≡ with_external (temperatures_of ts) x
external_next x ts = go (connected x) ts
  where
    go : (t : Bool) (ts : List ℤ) → temperatures_of (cond t (x ∷ []) [] ++ ts)
        ≡ record {
          coldest = cond t (cond (some ts) (lower_of x (coldest_of ts)) x) (coldest_of ts);
          hottest = cond t (cond (some ts) (higher_of (hottest_of ts) x) x) (hottest_of ts);
          seen = some ts || t;
        }
    go true [] = refl
    go true (y ∷ ys) = refl
    go false ts = λ i. record { coldest = coldest_of ts; hottest = hottest_of ts; seen = sym (or-false (some ts)) i }

temperatures_next : (t : List ℕ × Readings) (ts : List ℤ)
    → temperatures_of (externals t ++ ts) ≡ with_external (with_external (temperatures_of ts) t.1.external1) t.1.external2
temperatures_next t ts =
    let first : List ℤ = cond (connected t.1.external1) (t.1.external1 ∷ []) [] in
    ap temperatures_of (append_assoc (cond (connected t.1.external2) (t.1.external2 ∷ []) []) first ts)
    ∙ external_next t.1.external2 (first ++ ts)
    ∙ ap (λ (u : Temperatures). with_external u t.1.external2) (external_next t.1.external1 ts)

counted : (t : Bool) (n : ℕ) → min 65535 (bit_of t + n) ≡ count_of (min 65535 n) t
counted true n = omega arith
counted false n = omega arith

counted_twice : (t u : Bool) (n m : ℕ) → min 65535 ((bit_of t + n) + (bit_of u + m)) ≡ count_of (count_of (min 65535 (n + m)) t) u
counted_twice true true n m = omega arith
counted_twice true false n m = omega arith
counted_twice false true n m = omega arith
counted_twice false false n m = omega arith

summed : (x n : ℕ) → min largest_sum (x + n) ≡ min largest_sum (min largest_sum n + x)
summed x n = omega arith

larger : (x : ℕ) (xs : List ℕ) → largest (x ∷ xs) ≡ max (largest xs) x
larger x xs = omega arith

pub statistics_next : (cells : List ℕ) (r : Readings) (h : List Deed)
    → statistics_at (took cells r ∷ h)
    ≡ counted_of (ridden_of (statistics_at h) r.pulses) r (extremes_of cells) (latched_at h) (latched_at (took cells r ∷ h))
    (eqb (status_at (took cells r ∷ h)) 0x91 && not (eqb (status_at h) 0x91))
unfolding statistics_at counted_of ridden_of counts_of summed_of is
statistics_next cells r h =
    let after = latched_at (took cells r ∷ h) in
    let before = latched_at h in
    let ts = each ticking (since clears h) in
    let ridden : min 281474976710656 (r.pulses + pulses_at h) ≡ min 281474976710656 (min 281474976710656 (pulses_at h) + r.pulses) =
    omega arith in
    λ i. record {
      temperatures = temperatures_next (cells, r) (each externals ts) i;
      counts =
          record {
            uv = counted (after.uv && not before.uv) (latchings UV h) i;
            ov = counted (after.ov && not before.ov) (latchings OV h) i;
            doc = counted (after.doc && not before.doc) (latchings DOC h) i;
            charge =
                counted_twice (after.coc && not before.coc) (after.roc && not before.roc) (latchings COC h) (latchings ROC h) i;
            ot = counted (after.ot && not before.ot) (latchings OT h) i;
            charging = counted (eqb (status_at (took cells r ∷ h)) 0x91 && not (eqb (status_at h) 0x91))
                (count (λ yes. yes) (each entering (since clears h))) i;
          };
      sums = record { positive = summed (above r.current) (positive_at h) i; negative = summed (below r.current) (negative_at h) i };
      pulses = ridden i;
      drawn = larger (hundreds (below r.current)) (map (λ t. hundreds (below t.1.current)) ts) i;
      fed = larger (hundreds (above r.current)) (map (λ t. hundreds (above t.1.current)) ts) i;
      difference = larger ((extremes_of cells).highest - (extremes_of cells).lowest)
          (map (λ t. (extremes_of t.0).highest - (extremes_of t.0).lowest) ts) i;
      cleared = seconds_at (from clears h);
    }
