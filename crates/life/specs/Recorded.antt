-- Every event that any accepted tick recorded, "counted over all ticks ever and not over the kept list" (W-212): from the ticks so far, the
-- newest first, and document 01's table, with no latch, no timer and no memory. No clear, load or handover takes an event away, and no
-- full list drops one.
-- Assumes nothing.
use Rattle.std.specs.Prelude.{Bool, ◌&&◌, not, cond, List, [], ◌∷◌, ◌++◌, ℕ, suc, ◌-◌, eqb, leb, length, take}
use Rattle.laws.specs.History.{any, newest, ago, each, stands}
use Rattle.cells.specs.Cells.{extremes_of}
use Rattle.guard.specs.declared.Condition.{Condition}
use Rattle.guard.specs.declared.Condition.TheVariants.{UV, OV, OT, DOC, COC, ROC, LT}
use Rattle.guard.specs.Guard.{cells_high_enough, cells_low_enough, externals_mild}
use Rattle.guard.specs.Table.{is, latch_event, recovery_event}
use Rattle.guard.specs.Account.{Moment, holds, wait_of, cool_again}

-- an event, with the number of the tick that recorded it; the first accepted tick is 1
pub record Recorded : Type 0 where
  pub tick : ℕ
  pub number : ℕ

-- it is the condition's latch event; its recovery event
abbrev pub latching : Condition → Recorded → Bool
latching c e = eqb e.number (latch_event c)

abbrev pub recovering : Condition → Recorded → Bool
recovering c e = eqb e.number (recovery_event c)

-- "a condition .. has a latch event later than its last recovery event"
abbrev pub unrecovered : Condition → List Recorded → Bool
unrecovered c events = stands (latching c) (recovering c) events

-- ---- the table at one tick

-- the column 'Holds'
abbrev pub held : Condition → Moment → Bool
held c m = is (holds m) c

-- "The wait is 10·r332 ticks, r332 as at the latest tick at which the condition held, all since then without it"
abbrev pub wait_over : Condition → List Moment → Bool
wait_over c ms = any (λ m. leb (wait_of m) (ago (held c) ms)) (newest (held c) ms)

-- the ticks from that number on
abbrev pub ticks_from : ℕ → List Moment → List Moment
ticks_from n ms = take (suc (length ms) - n) ms

-- W-204: each sensor connected at any tick since OT latched, that tick included, is connected and cool now
abbrev pub cool_since : List Recorded → List Moment → Bool
cool_since events ms = any (λ e. cool_again (ticks_from e.tick ms)) (newest (latching OT) events)

-- at tick m, which came after the ticks before it and their events
module _ (m : Moment) (before : List Moment) (events : List Recorded) where
  -- the column 'Recovers'
  unfoldable pub recovery : Condition → Bool
  recovery UV = cells_high_enough m.settings (extremes_of m.cells)
  recovery OV = cells_low_enough m.settings (extremes_of m.cells)
  recovery OT = cool_since events (m ∷ before)
  recovery DOC = wait_over DOC (m ∷ before)
  recovery COC = wait_over COC (m ∷ before)
  recovery ROC = wait_over ROC (m ∷ before)
  recovery LT = externals_mild m.settings m.readings

  -- "each latching when it holds and recovering when latched and its recovery holds": never both (proofs/OneTick)
  abbrev pub latches_now : Condition → Bool
  latches_now c = held c m && not (unrecovered c events)

  abbrev pub recovers_now : Condition → Bool
  recovers_now c = unrecovered c events && recovery c

  abbrev pub event : ℕ → Recorded
  event number = record { tick = suc (length before); number = number }

  abbrev pub events_of : Condition → List Recorded
  events_of c = cond (latches_now c) (event (latch_event c) ∷ []) [] ++ cond (recovers_now c) (event (recovery_event c) ∷ []) []

-- "Conditions in this order": the newest first
abbrev pub last_first : List Condition
last_first = LT ∷ ROC ∷ COC ∷ DOC ∷ OT ∷ OV ∷ UV ∷ []

-- ---- of all ticks

abbrev recorded_by : Moment → List Moment → List Recorded → List Recorded
recorded_by m before events = each (events_of m before events) last_first ++ events

unfoldable pub recorded_ever : List Moment → List Recorded
recorded_ever [] = []
recorded_ever (m ∷ before) = recorded_by m before (recorded_ever before)
