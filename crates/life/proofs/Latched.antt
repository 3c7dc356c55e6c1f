-- The events ever recorded and the latches say the same: a condition has a latch event later than its last recovery event exactly if it is
-- latched, by the account of the guard that is also the plain engine's definition (W-211). OT, with W-204's rule, too: the ticks since
-- its latch event are the ticks since it latched.
-- Assumes nothing.
use mathlib.Core.Path.{◌≡◌, refl, sym, ap, ◌∙◌}
use mathlib.Core.Bool.{Bool, true, false, ◌&&◌, ◌||◌, not, cond, and-true, and-false, or-false}
use mathlib.Core.List.{List, [], ◌∷◌}
use Prim.Native.Nat.{ℕ, suc, ◌-◌, ◌≤◌}
use native.Mathlib.Omega.{arith}
use borrow.Author.Tests.{leb-true, leb-false, lt-ltb, le-ltb}
use lib.Dec.{leb, ltb}
use lib.ListN.{length, take}
use Rattle.laws.specs.History.{any, some, newest, ago, waits}
use Rattle.laws.proofs.Latch.{wrong}
use Rattle.laws.proofs.Later.{stands_next}
use Rattle.cells.specs.Cells.{extremes_of}
use Rattle.readings.specs.Readings.{connected}
use Rattle.guard.specs.declared.Condition.{Condition}
use Rattle.guard.specs.declared.Condition.TheVariants.{UV, OV, OT, DOC, COC, ROC, LT}
use Rattle.guard.specs.declared.Remembered.{Remembered}
use Rattle.guard.specs.Guard.{cells_high_enough, cells_low_enough, externals_mild, with_connected, remembered_cool, latch_of}
use Rattle.guard.specs.Table.{is, latch_event}
use Rattle.guard.specs.Account.{Moment, wait_of, connected_at_any, cool_again, since_hot, latched_from}
use Rattle.guard.proofs.Account.{hot_next}
use Rattle.life.specs.Recorded.{Recorded, latching, unrecovered, held, ticks_from, recovery, latches_now, event}
use Rattle.life.specs.Recorded.{recorded_ever}
use Rattle.life.proofs.OneTick.{unrecovered_now, newest_now}
use Rattle.life.proofs.Recovers.{excluded}

-- ---- a wait, one tick later

module _ {A : Type 0} (holds : A → Bool) (wait : A → ℕ) where
  at_most_one : (P : List A → Type 0) → P [] → ((t : A) → P (t ∷ [])) → (ts : List A) → P (newest holds ts)
  at_most_one P none one [] = none
  at_most_one P none one (t ∷ ts) = go (holds t) (at_most_one P none one ts)
    where
      go : (b : Bool) → P (newest holds ts) → P (cond b (t ∷ []) (newest holds ts))
      go true p = one t
      go false p = p

  waits_on : (t : A) (ts : List A) → 1 ≤ wait t
      → waits holds wait (t ∷ ts)
      ≡ (holds t || waits holds wait ts && not (any (λ x. leb (wait x) (ago holds (t ∷ ts))) (newest holds (t ∷ ts))))
  waits_on t ts some-wait = go (holds t)
    where
      single : (n : ℕ) (x : A)
          → cond (ltb (suc n) (wait x)) true false ≡ (cond (ltb n (wait x)) true false && not (cond (leb (wait x) (suc n)) true false))
      single n x = by (leb (wait x) (suc n)) refl
        where
          by : (over : Bool) → leb (wait x) (suc n) ≡ over
              → cond (ltb (suc n) (wait x)) true false ≡ (cond (ltb n (wait x)) true false && not (cond over true false))
          by true e = rw (le-ltb (suc n) (wait x) (leb-true _ _ e)) (sym (and-false (cond (ltb n (wait x)) true false)))
          by false e =
              let l = leb-false (wait x) (suc n) e in
              rw (lt-ltb (suc n) (wait x) l, lt-ltb n (wait x) (omega arith)) refl

      go : (a : Bool)
          → any (λ x. ltb (cond a 0 (suc (ago holds ts))) (wait x)) (cond a (t ∷ []) (newest holds ts))
          ≡ (a || waits holds wait ts
          && not (any (λ x. leb (wait x) (cond a 0 (suc (ago holds ts)))) (cond a (t ∷ []) (newest holds ts))))
      go true = rw (lt-ltb 0 (wait t) some-wait) refl
      go false = at_most_one
          (λ l. any (λ x. ltb (suc (ago holds ts)) (wait x)) l
          ≡ (any (λ x. ltb (ago holds ts) (wait x)) l && not (any (λ x. leb (wait x) (suc (ago holds ts))) l)))
          refl (single (ago holds ts)) ts

-- ---- OT: the ticks since its latch event are the ticks since it latched

pub record Since (ms : List Moment) : Type 0 where
  pub latch : Recorded
  pub last : newest (latching OT) (recorded_ever ms) ≡ latch ∷ []
  pub within : latch.tick ≤ length ms
  pub since : ticks_from latch.tick ms ≡ since_hot ms

-- one tick more is one of them more
longer : (n : ℕ) (m : Moment) (ms : List Moment) → n ≤ length ms → ticks_from n (m ∷ ms) ≡ m ∷ ticks_from n ms
longer n m ms l =
    let e : suc (suc (length ms)) - n ≡ suc (suc (length ms) - n) = omega arith in
    ap (λ (k : ℕ). take k (m ∷ ms)) e

-- of what is latched and holds and recovers: the tests that tell no difference
settled : (h o v : Bool) → (h ≡ true → v ≡ false) → (h && not o || o && not (o && v)) ≡ (h || o && not v)
settled true true v f = rw (f refl) refl
settled false true v f = refl
settled true false v f = refl
settled false false v f = refl

while : (h s v w : Bool) → (s ≡ true → v ≡ w) → (h || s && not v) ≡ (h || s && not w)
while h true v w f = rw (f refl) refl
while h false v w f = refl

module _ (m : Moment) (ms : List Moment) (some-wait : 1 ≤ m.settings.r332) where
  abbrev events : List Recorded
  events = recorded_ever ms

  -- so it is after a tick: it holds, or has been so and does not recover
  pub unrecovered_next : (c : Condition)
      → unrecovered c (recorded_ever (m ∷ ms)) ≡ (held c m || unrecovered c events && not (recovery m ms events c))
  unfolding recorded_ever
  unrecovered_next c =
      unrecovered_now m ms events c
      ∙ settled (held c m) (unrecovered c events) (recovery m ms events c) (excluded m ms events some-wait c)

module _ (m : Moment) (ms : List Moment) where
  abbrev hot : List Moment
  hot = since_hot ms

  abbrev stays : Bool
  stays = latch_of (some hot) (held OT m) (cool_again (m ∷ hot))

  joined : connected_at_any (m ∷ hot) ≡ with_connected (connected_at_any hot) m.readings
  joined = λ i. record {
    external1 = or (connected m.readings.external1) (connected_at_any hot).external1 i;
    external2 = or (connected m.readings.external2) (connected_at_any hot).external2 i;
  }
    where
      or : (a b : Bool) → cond a true b ≡ (a || b)
      or true b = refl
      or false b = refl

  hot_later : since_hot (m ∷ ms) ≡ cond stays (m ∷ hot) []
  unfolding is
  hot_later =
      hot_next m ms
      ∙ ap (λ (seen : Remembered). cond (latch_of (some hot) (held OT m) (remembered_cool m.settings m.readings seen)) (m ∷ hot) [])
      (sym joined)

  some_later : some (since_hot (m ∷ ms)) ≡ stays
  some_later = ap some hot_later ∙ go stays
    where
      go : (b : Bool) → some (cond b (m ∷ hot) []) ≡ b
      go true = refl
      go false = refl

  recovers_by : Since ms → recovery m ms (recorded_ever ms) OT ≡ cool_again (m ∷ hot)
  unfolding recovery
  recovers_by s =
      ap (λ (l : List Recorded). any (λ e. cool_again (ticks_from e.tick (m ∷ ms))) l) s.last
      ∙ one (cool_again (ticks_from s.latch.tick (m ∷ ms)))
      ∙ ap cool_again (longer s.latch.tick m ms s.within ∙ ap (λ (l : List Moment). m ∷ l) s.since)
    where
      one : (b : Bool) → cond b true false ≡ b
      one true = refl
      one false = refl

  module _ (same : unrecovered OT (recorded_ever ms) ≡ some hot) (since : some hot ≡ true → Since ms) (yes : stays ≡ true) where
    now : since_hot (m ∷ ms) ≡ m ∷ hot
    now = hot_later ∙ ap (λ (b : Bool). cond b (m ∷ hot) []) yes

    newest_by : {latches : Bool} → latches_now m ms (recorded_ever ms) OT ≡ latches
        → newest (latching OT) (recorded_ever (m ∷ ms))
        ≡ cond latches (event m ms (recorded_ever ms) (latch_event OT) ∷ []) (newest (latching OT) (recorded_ever ms))
    unfolding recorded_ever
    newest_by e =
        newest_now m ms (recorded_ever ms)
        ∙ ap (λ (b : Bool). cond b (event m ms (recorded_ever ms) (latch_event OT) ∷ []) (newest (latching OT) (recorded_ever ms))) e

    since_later : Since (m ∷ ms)
    since_later = go (some hot) refl
      where
        empty : (l : List Moment) → some l ≡ false → l ≡ []
        empty [] e = refl
        empty (x ∷ l) e = wrong (sym e)

        go : (b : Bool) → some hot ≡ b → Since (m ∷ ms)
        go true e =
            let s = since e in
            let w = s.within in
            record {
              latch = s.latch;
              last = newest_by (ap (λ (o : Bool). held OT m && not o) (same ∙ e) ∙ and-false (held OT m)) ∙ s.last;
              within = omega arith;
              since = longer s.latch.tick m ms s.within ∙ ap (λ (l : List Moment). m ∷ l) s.since ∙ sym now;
            }
        go false e =
            let one : suc (suc (length ms)) - suc (length ms) ≡ 1 = omega arith in
            let holds : held OT m ≡ true =
            sym (or-false (held OT m)) ∙ sym (ap (λ (s : Bool). held OT m || s && not (cool_again (m ∷ hot))) e) ∙ yes in
            record {
              latch = event m ms (recorded_ever ms) (latch_event OT);
              last = newest_by (ap (λ (o : Bool). held OT m && not o) (same ∙ e) ∙ and-true (held OT m) ∙ holds);
              within = omega arith;
              since = ap (λ (k : ℕ). take k (m ∷ ms)) one ∙ sym (now ∙ ap (λ (l : List Moment). m ∷ l) (empty hot e));
            }

-- ---- all seven

-- no wait is 0 at any of these ticks (332 is 1 to 30)
abbrev pub Waiting : List Moment → Type 0
Waiting [] = Unit {0}
Waiting (m ∷ ms) = (1 ≤ m.settings.r332) × Waiting ms

hot_so : (ms : List Moment) → Waiting ms → (unrecovered OT (recorded_ever ms) ≡ some (since_hot ms)) × (some (since_hot ms) ≡ true → Since ms)
unfolding recorded_ever
hot_so [] w = (refl, λ e. wrong e)
hot_so (m ∷ ms) w =
    let (same, since) = hot_so ms w.1 in
    let h = held OT m in (
      unrecovered_next m ms w.0 OT ∙ ap (λ (o : Bool). h || o && not (recovery m ms (recorded_ever ms) OT)) same
          ∙ while h (some (since_hot ms)) (recovery m ms (recorded_ever ms) OT) (cool_again (m ∷ since_hot ms))
          (λ e. recovers_by m ms (since e))
          ∙ sym (some_later m ms),
      λ e. since_later m ms same since (sym (some_later m ms) ∙ e),
    )

none_yet : (c : Condition) → unrecovered c (recorded_ever []) ≡ is (latched_from []) c
unfolding recorded_ever is latched_from
none_yet UV = refl
none_yet OV = refl
none_yet OT = refl
none_yet DOC = refl
none_yet COC = refl
none_yet ROC = refl
none_yet LT = refl

-- both go on alike
alike : (m : Moment) (ms : List Moment) → 1 ≤ m.settings.r332 → (c : Condition) → unrecovered c (recorded_ever ms) ≡ is (latched_from ms) c
    → is (latched_from (m ∷ ms)) c ≡ (held c m || is (latched_from ms) c && not (recovery m ms (recorded_ever ms) c))
    → unrecovered c (recorded_ever (m ∷ ms)) ≡ is (latched_from (m ∷ ms)) c
alike m ms some-wait c same next =
    unrecovered_next m ms some-wait c ∙ ap (λ (o : Bool). held c m || o && not (recovery m ms (recorded_ever ms) c)) same ∙ sym next

pub latched_by_events : (ms : List Moment) → Waiting ms → (c : Condition) → unrecovered c (recorded_ever ms) ≡ is (latched_from ms) c
unfolding is latched_from recovery
latched_by_events [] w c = none_yet c
latched_by_events (m ∷ ms) w UV = alike m ms w.0 UV (latched_by_events ms w.1 UV)
    (stands_next (held UV) (λ m. cells_high_enough m.settings (extremes_of m.cells)) m ms)
latched_by_events (m ∷ ms) w OV = alike m ms w.0 OV (latched_by_events ms w.1 OV)
    (stands_next (held OV) (λ m. cells_low_enough m.settings (extremes_of m.cells)) m ms)
latched_by_events (m ∷ ms) w OT = (hot_so (m ∷ ms) w).0
latched_by_events (m ∷ ms) w DOC = alike m ms w.0 DOC (latched_by_events ms w.1 DOC)
    (let e = w.0 in waits_on (held DOC) wait_of m ms (omega arith))
latched_by_events (m ∷ ms) w COC = alike m ms w.0 COC (latched_by_events ms w.1 COC)
    (let e = w.0 in waits_on (held COC) wait_of m ms (omega arith))
latched_by_events (m ∷ ms) w ROC = alike m ms w.0 ROC (latched_by_events ms w.1 ROC)
    (let e = w.0 in waits_on (held ROC) wait_of m ms (omega arith))
latched_by_events (m ∷ ms) w LT = alike m ms w.0 LT (latched_by_events ms w.1 LT)
    (stands_next (held LT) (λ m. externals_mild m.settings m.readings) m ms)

-- so all that the plain engine answers is told by the events
pub plain_engine : (ms : List Moment) → Waiting ms
    → latched_from ms ≡ record {
      uv = unrecovered UV (recorded_ever ms);
      ov = unrecovered OV (recorded_ever ms);
      ot = unrecovered OT (recorded_ever ms);
      doc = unrecovered DOC (recorded_ever ms);
      coc = unrecovered COC (recorded_ever ms);
      roc = unrecovered ROC (recorded_ever ms);
      lt = unrecovered LT (recorded_ever ms);
    }
unfolding is
plain_engine ms w = sym (λ i. record {
  uv = latched_by_events ms w UV i;
  ov = latched_by_events ms w OV i;
  ot = latched_by_events ms w OT i;
  doc = latched_by_events ms w DOC i;
  coc = latched_by_events ms w COC i;
  roc = latched_by_events ms w ROC i;
  lt = latched_by_events ms w LT i;
})
