-- The events ever recorded are those that the board records: at each accepted tick of any history, newest first, the numbers that the
-- account of the event list has (the charger's first, then the conditions' in the table's order) are the numbers here and the charger's.
-- Assumes nothing.
use mathlib.Core.Path.{◌≡◌, refl, sym, ap, ap₂, ◌∙◌}
use mathlib.Core.Bool.{Bool, true, false, ◌&&◌, ◌||◌, not, cond}
use mathlib.Core.List.{List, [], ◌∷◌, ◌++◌, map, reverse, append_assoc}
use Prim.Native.Nat.{ℕ}
use lib.Dec.{eqb}
use Rattle.laws.specs.History.{each}
use Rattle.laws.proofs.Latch.{wrong}
use Rattle.guard.specs.declared.Condition.{Condition}
use Rattle.guard.specs.declared.Condition.TheVariants.{UV, OV, OT, DOC, COC, ROC, LT}
use Rattle.guard.specs.Table.{is, latch_event, recovery_event, event_of}
use Rattle.guard.specs.Account.{Moment, latched_from}
use Rattle.readings.specs.declared.Readings.{Readings}
use Rattle.hire.specs.Tick.{charger_event}
use Rattle.hire.specs.Tick as hire
use Rattle.board.specs.Calls.{Call}
use Rattle.board.specs.Account.{took, moment_of, moments_at, settings_at, latched_at, some_event, numbers_of}
use Rattle.board.specs.Demands.{deeds}
use Rattle.board.proofs.Account.Settings.{ranges, wait_some}
use Rattle.life.specs.Recorded.{Recorded, unrecovered, held, recovery, event, events_of, last_first, recorded_ever}
use Rattle.life.proofs.Recovers.{excluded}
use Rattle.life.proofs.Latched.{Waiting, unrecovered_next, latched_by_events}
use Rattle.life.proofs.Switches.{waiting}

abbrev numbers : List Recorded → List ℕ
numbers events = map (λ e. e.number) events

-- ---- of one condition

module _ (m : Moment) (ms : List Moment) (w : Waiting (m ∷ ms)) where
  abbrev before : List Recorded
  before = recorded_ever ms

  some_number : (c : Condition) → (eqb (latch_event c) 0 ≡ false) × (eqb (recovery_event c) 0 ≡ false)
  unfolding latch_event recovery_event
  some_number UV = (refl, refl)
  some_number OV = (refl, refl)
  some_number OT = (refl, refl)
  some_number DOC = (refl, refl)
  some_number COC = (refl, refl)
  some_number ROC = (refl, refl)
  some_number LT = (refl, refl)

  by_tests : (c : Condition) (h o v : Bool) → (h ≡ true → v ≡ false)
      → cond (h && not o) (latch_event c ∷ []) [] ++ cond (o && v) (recovery_event c ∷ []) []
      ≡ some_event (cond ((h || o && not v) && not o) (latch_event c) (cond (o && not (h || o && not v)) (recovery_event c) 0))
  by_tests c true true true f = wrong (sym (f refl))
  by_tests c true true false f = refl
  by_tests c true false v f = rw (some_number c).0 refl
  by_tests c false true true f = rw (some_number c).1 refl
  by_tests c false true false f = refl
  by_tests c false false v f = refl

  of_one : (c : Condition) → numbers (events_of m ms before c) ≡ some_event (event_of (latched_from ms) (latched_from (m ∷ ms)) c)
  unfolding event_of
  of_one c =
      let h = held c m in
      let o = unrecovered c before in
      let v = recovery m ms before c in
      let was = latched_by_events ms w.1 c in
      let now = sym (unrecovered_next m ms w.0 c) ∙ latched_by_events (m ∷ ms) w c in
      mapped (h && not o) (o && v) (event m ms before (latch_event c)) (event m ms before (recovery_event c))
      ∙ by_tests c h o v (excluded m ms before w.0 c)
      ∙ ap₂ (λ (after was : Bool). some_event (cond (after && not was) (latch_event c) (cond (was && not after) (recovery_event c) 0))) now was
    where
      mapped : (a b : Bool) (l r : Recorded)
          → numbers (cond a (l ∷ []) [] ++ cond b (r ∷ []) []) ≡ cond a (l.number ∷ []) [] ++ cond b (r.number ∷ []) []
      mapped true true l r = refl
      mapped true false l r = refl
      mapped false true l r = refl
      mapped false false l r = refl

  -- ---- of all, in the table's order

  of_all : (cs : List Condition)
      → numbers (each (events_of m ms before) cs) ≡ each (λ c. some_event (event_of (latched_from ms) (latched_from (m ∷ ms)) c)) cs
  of_all [] = refl
  of_all (c ∷ cs) = both (events_of m ms before c) (each (events_of m ms before) cs) ∙ ap₂ (λ (k l : List ℕ). k ++ l) (of_one c) (of_all cs)
    where
      both : (k l : List Recorded) → numbers (k ++ l) ≡ numbers k ++ numbers l
      both [] l = refl
      both (x ∷ k) l = ap (λ (ns : List ℕ). x.number ∷ ns) (both k l)

  pub tick_records : (was is : Bool)
      → numbers_of (latched_from ms) (latched_from (m ∷ ms)) was is
      ≡ numbers (each (events_of m ms before) last_first) ++ some_event (charger_event was is)
  unfolding hire.events_of
  tick_records was is =
      in_order (λ c. some_event (event_of (latched_from ms) (latched_from (m ∷ ms)) c)) (some_event (charger_event was is))
      ∙ sym (ap (λ (ns : List ℕ). ns ++ some_event (charger_event was is)) (of_all last_first))
    where
      in_order : (s : Condition → List ℕ) (charger : List ℕ)
          → s LT ++ s ROC ++ s COC ++ s DOC ++ s OT ++ s OV ++ s UV ++ charger ≡ each s last_first ++ charger
      in_order s charger = simp append_assoc

-- ---- at each tick of a history of calls

pub as_recorded : (cells per_km : ℕ) (cs : List Call) (given : List ℕ) (r : Readings) (was : Bool)
    → (let h = deeds cells per_km cs in
    let m = moment_of (settings_at h) (given, r) in
    numbers_of (latched_at h) (latched_at (took given r ∷ h)) was r.charger
    ≡ numbers (each (events_of m (moments_at h) (recorded_ever (moments_at h))) last_first) ++ some_event (charger_event was r.charger))
unfolding latched_at
as_recorded cells per_km cs given r was =
    let h = deeds cells per_km cs in
    tick_records (moment_of (settings_at h) (given, r)) (moments_at h)
    (wait_some (settings_at h) (ranges cells per_km (reverse cs)), waiting cells per_km cs) was r.charger
