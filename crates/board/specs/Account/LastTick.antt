-- The last tick since the handover, from the history: its readings, the pulses of the last ten, status, bits and switches.
-- Assumes nothing.
use Rattle.std.specs.Prelude.{Bool, false, ◌&&◌, ◌||◌, not, cond, List, [], ◌∷◌, map, ℕ, eqb}
use Rattle.laws.specs.History.{since, each, head_or, latest}
use Rattle.cells.specs.Cells.{kept_of, extremes_of, sum_of, decision_of}
use Rattle.guard.specs.Table.{charge_off, discharge_off}
use Rattle.live.specs.Live.{live_of}
use Rattle.readings.specs.declared.Readings.{Readings}
use Rattle.hire.specs.declared.Sensed.{Sensed}
use Rattle.hire.specs.Hire.{no_sensed}
use Rattle.hire.specs.Tick.{status_for}
use Rattle.board.specs.Deeds.{Deed, row, hands, ticking}
use Rattle.board.specs.Account.Kept.{settings_at, latched_at}

abbrev pub sensed_of : List ℕ × Readings → Sensed
sensed_of t = record { readings = t.1; cells = kept_of t.0; extremes = extremes_of t.0; live = live_of (sum_of t.0) t.1.current }

unfoldable pub sensed_at : List Deed → Sensed
sensed_at h = head_or no_sensed (map sensed_of (each ticking (since hands h)))

unfoldable pub window_at : List Deed → List ℕ
window_at h = latest 10 0 (map (λ t. t.1.pulses) (each ticking (since hands h)))

-- present at the last tick
abbrev pub charger_at : List Deed → Bool
charger_at h = (sensed_at h).readings.charger

-- status, bits and switches as at the last tick since the handover
abbrev pub status_now : List Deed → List ℕ
status_now [] = []
status_now (d ∷ h) = map (λ t. status_for (latched_at (d ∷ h)) t.1) (row d).ticks

unfoldable pub status_at : List Deed → ℕ
status_at h = head_or 0x97 (each status_now (since hands h))

abbrev pub decision_now : List Deed → List ℕ
decision_now [] = []
decision_now (d ∷ h) = map (λ t. decision_of (settings_at h).r303 (settings_at h).r308 t.0) (row d).ticks

unfoldable pub decision_at : List Deed → ℕ
decision_at h = head_or 0 (each decision_now (since hands h))

abbrev pub balancing_now : List Deed → List ℕ
balancing_now [] = []
balancing_now (d ∷ h) =
    map
    (λ t. cond (eqb (status_at (d ∷ h)) 0x91 || eqb (status_at (d ∷ h)) 0x96 || (latched_at (d ∷ h)).ov)
    (decision_of (settings_at h).r303 (settings_at h).r308 t.0) 0)
    (row d).ticks

unfoldable pub balancing_at : List Deed → ℕ
balancing_at h = head_or 0 (each balancing_now (since hands h))

abbrev pub charge_now : List Deed → List Bool
charge_now [] = []
charge_now (d ∷ h) = map (λ t. t.1.charger && not (charge_off (latched_at (d ∷ h)))) (row d).ticks

unfoldable pub charge_at : List Deed → Bool
charge_at h = head_or false (each charge_now (since hands h))

abbrev pub discharge_now : List Deed → List Bool
discharge_now [] = []
discharge_now (d ∷ h) = map (λ t. not (discharge_off (latched_at (d ∷ h))) && (eqb (settings_at h).r334 0 || t.1.ignition)) (row d).ticks

unfoldable pub discharge_at : List Deed → Bool
discharge_at h = head_or false (each discharge_now (since hands h))
