-- The steps of a tick that touch a hire: readings kept; speed and distance; the charger's event and the conditions'; status;
-- balancing; statistics; switches. What they need of the pack is given: the lifetime in seconds, latches, settings.
-- Assumes nothing.
use Rattle.std.specs.Prelude.{Bool, ◌&&◌, ◌||◌, not, cond, List, [], ◌∷◌, ℕ, eqb, pos, negsuc}
use Rattle.std.specs.Bool.{beq}
use Rattle.std.specs.Int.Signed.{lt_z}
use Rattle.laws.specs.Fold.{shifted}
use Rattle.cells.specs.declared.Extremes.{Extremes}
use Rattle.cells.specs.Cells.{kept_of, sum_of, decision_of}
use Rattle.events.specs.declared.Events.{Events}
use Rattle.events.specs.Events.{add_of}
use Rattle.guard.specs.declared.Conditions.{Conditions}
use Rattle.guard.specs.declared.Condition.TheVariants.{UV, OV, OT, DOC, COC, ROC, LT}
use Rattle.guard.specs.Table.{charge_off, discharge_off, faulty, event_of}
use Rattle.live.specs.Live.{live_of}
use Rattle.readings.specs.declared.Readings.{Readings}
use Rattle.statistics.specs.Statistics.{ridden_of, counted_of}
use Rattle.hire.specs.declared.Hire.{Hire}
use Rattle.hire.specs.Hire.{with_sensed, with_window, with_events, with_statistics, with_status, with_decision, with_balancing, with_charge}
use Rattle.hire.specs.Hire.{with_discharge}

-- readings kept, with their lowest and highest cell; pack volts and amps are built here
unfoldable pub readings_of : Hire → List ℕ → Readings → Extremes → Hire
readings_of h cells r e =
    with_sensed h
    record { readings = r; cells = kept_of cells; extremes = e; live = live_of (sum_of cells) r.current }

-- the pulses of this tick enter the last ten, and the sum since the clear
unfoldable pub speed_and_distance_of : Hire → ℕ → Hire
speed_and_distance_of h pulses = with_statistics (with_window h (shifted h.window pulses)) (ridden_of h.statistics pulses)

-- charger event 0x64 or 0x65 when presence differs from the tick before
abbrev pub charger_event : Bool → Bool → ℕ
charger_event was is = cond (beq was is) 0 (cond is 0x64 0x65)

-- the events of a tick, 0 for none: the charger's, then the conditions' in the table's order, where the latches were `before` and are
-- `after`
unfoldable pub events_of : Bool → Bool → Conditions → Conditions → List ℕ
events_of was is before after =
    charger_event was is
    ∷ event_of before after UV
    ∷ event_of before after OV
    ∷ event_of before after OT
    ∷ event_of before after DOC
    ∷ event_of before after COC
    ∷ event_of before after ROC
    ∷ event_of before after LT
    ∷ []

-- an event at this moment, where the number is not 0; and one after the other
abbrev pub recorded_of : ℕ → Events → ℕ → Events
recorded_of seconds events number = cond (eqb number 0) events (add_of events seconds number)

unfoldable pub recorded_all : ℕ → Events → List ℕ → Events
recorded_all seconds events [] = events
recorded_all seconds events (number ∷ numbers) = recorded_all seconds (recorded_of seconds events number) numbers

unfoldable pub record_of : Hire → ℕ → List ℕ → Hire
record_of h seconds numbers = with_events h (recorded_all seconds h.events numbers)

-- 0x9B if any condition but LT is latched; else 0x91 (charger, above 800 mA), 0x96 (no charger, above 800 mA), 0x93 (below
-- -800 mA), 0x97
unfoldable pub status_for : Conditions → Readings → ℕ
status_for latched r =
    cond (faulty latched) 0x9B
    (cond (r.charger && lt_z (pos 800) r.current) 0x91
    (cond (not r.charger && lt_z (pos 800) r.current) 0x96
    (cond (lt_z r.current (negsuc 799)) 0x93 0x97)))

unfoldable pub status_of : Hire → Conditions → Readings → Hire
status_of h latched r = with_status h (status_for latched r)

-- 51, the decision; 52 equals 51 in status 0x91 or 0x96 or with OV latched, else 0
unfoldable pub balancing_of : Hire → List ℕ → ℕ → ℕ → Bool → Hire
balancing_of h cells r303 r308 ov =
    with_balancing (with_decision h (decision_of r303 r308 cells))
    (cond (eqb h.status 0x91 || eqb h.status 0x96 || ov) (decision_of r303 r308 cells) 0)

-- what a tick counts, the latches before and after it and the status before it given; 0x91 is entered if it was another
unfoldable pub statistics_of : Hire → Readings → Extremes → Conditions → Conditions → ℕ → Hire
statistics_of h r e before after status =
    with_statistics h (counted_of h.statistics r e before after (eqb h.status 0x91 && not (eqb status 0x91)))

-- charge on exactly if the charger is present and nothing naming it is latched; discharge on exactly if nothing naming it is
-- latched, and either r334 is 0 or ignition is present
unfoldable pub switches_of : Hire → Conditions → ℕ → Readings → Hire
switches_of h latched r334 r =
    with_discharge (with_charge h (r.charger && not (charge_off latched))) (not (discharge_off latched) && (eqb r334 0 || r.ignition))
