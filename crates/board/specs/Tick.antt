-- A tick. Steps in order: readings kept; time; speed and distance; charger event; conditions; status; balancing; statistics;
-- switches. Each changes the pack or the hire; what a hire's step needs of the pack is given to it.
-- Assumes nothing.
use Rattle.std.specs.Prelude.{Bool, List, ℕ}
use Rattle.cells.specs.declared.Extremes.{Extremes}
use Rattle.cells.specs.Cells.{extremes_of}
use Rattle.guard.specs.declared.Conditions.{Conditions}
use Rattle.readings.specs.declared.Readings.{Readings}
use Rattle.pack.specs.Pack.{time_of, conditions_of}
use Rattle.hire.specs.Tick.{readings_of, speed_and_distance_of, events_of, record_of, status_of, balancing_of, statistics_of, switches_of}
use Rattle.board.specs.declared.Board.{Board}
use Rattle.board.specs.State.{with_pack, with_hire}

-- readings kept, with their lowest and highest cell
unfoldable pub readings_kept : List ℕ → Readings → Extremes → Board → Board
readings_kept cells r e b = with_hire b (readings_of b.hire cells r e)

-- time
unfoldable pub time_passed : Board → Board
time_passed b = with_pack b (time_of b.pack)

-- speed and distance
unfoldable pub ridden : Readings → Board → Board
ridden r b = with_hire b (speed_and_distance_of b.hire r.pulses)

-- conditions, and the events: the charger's, which was present or not at the tick before, then the conditions' in the table's order, where
-- the latches were `before`. All have this tick's time
unfoldable pub guarded : Readings → Extremes → Board → Board
guarded r e b = with_pack b (conditions_of b.pack r e)

unfoldable pub recorded : Bool → Bool → Conditions → Board → Board
recorded was is before b = with_hire b (record_of b.hire b.pack.clock.seconds (events_of was is before b.pack.guard.latched))

-- status
unfoldable pub status_set : Readings → Board → Board
status_set r b = with_hire b (status_of b.hire b.pack.guard.latched r)

-- balancing
unfoldable pub balanced : List ℕ → Board → Board
balanced cells b =
    with_hire b (balancing_of b.hire cells b.pack.settings.r303 b.pack.settings.r308 b.pack.guard.latched.ov)

-- statistics, where latches and status were those before the tick
unfoldable pub counted : Readings → Extremes → Conditions → ℕ → Board → Board
counted r e before status b = with_hire b (statistics_of b.hire r e before b.pack.guard.latched status)

-- switches
unfoldable pub switched : Readings → Board → Board
switched r b = with_hire b (switches_of b.hire b.pack.guard.latched b.pack.settings.r334 r)

-- the steps in order, in three parts: what is read, what is guarded, what is done about it
unfoldable pub sensed : List ℕ → Readings → Extremes → Board → Board
sensed cells r e b = ridden r (time_passed (readings_kept cells r e b))

unfoldable pub watched : Readings → Extremes → Bool → Board → Board
watched r e was b = status_set r (recorded was r.charger b.pack.guard.latched (guarded r e b))

unfoldable pub acted : List ℕ → Readings → Extremes → Conditions → ℕ → Board → Board
acted cells r e before status b = switched r (counted r e before status (balanced cells b))

-- an accepted tick
unfoldable pub ticked_of : Board → List ℕ → Readings → Board
ticked_of b cells r =
    acted cells r (extremes_of cells) b.pack.guard.latched b.hire.status
    (watched r (extremes_of cells) b.hire.sensed.readings.charger (sensed cells r (extremes_of cells) b))
