-- Boards from the start through ticks and a handover, computed: which events are recorded, in which order, and how many are kept, what is
-- counted, and what a handover clears and keeps. Assumes nothing.
use Rattle.std.specs.Prelude.{Some}
use mathlib.Core.Path.{◌≡◌, refl}
use mathlib.Core.Bool.{Bool, true, false}
use mathlib.Core.List.{List, [], ◌∷◌, ◌++◌, map}
use Prim.Native.Nat.{ℕ, zero, suc}
use lib.IntN.{ℤ, pos, negsuc}
use lib.ListN.{replicate}
use Rattle.laws.specs.Fold.{shifted, packed}
use Rattle.events.specs.declared.Event.{Event}
use Rattle.events.specs.Events.{number_of as event_number, latest, kept_of, no_events, add_of}
use Rattle.guard.specs.declared.Conditions.{Conditions}
use Rattle.guard.specs.Guard.{holds_of, waits_of, recovers_of, latched_of, guard_of}
use Rattle.guard.specs.Table.{is, charge_off, discharge_off, faulty, latch_event, recovery_event, event_of}
use Rattle.readings.specs.declared.Readings.{Readings}
use Rattle.statistics.specs.Statistics as statistics
use Rattle.board.specs.declared.Board.{Board}
use Rattle.hire.specs.Hire.{new_hire}
use Rattle.board.specs.Start.{start_board, start_of}
use Rattle.refusals.specs.Refusals.{Done, first}
use Rattle.hire.specs.Tick.{events_of, recorded_all, status_for}
use Rattle.pack.specs.Pack.{new_pack, later_of}
use Rattle.board.specs.Calls.{tick, shape, outcome_of, board_by, outcome_in, board_after}
use Rattle.hire.specs.Registers.{reading_register}
use Rattle.answers.specs.Registers.{shown_at}
use Rattle.board.specs.Handover.{handed_over}
use Rattle.board.proofs.Opened.{steps}
use Rattle.facts.proofs.Calls.{reading_of, shown_by, handing}

-- ---- ticks

-- what a tick takes: the cells, and the other readings
abbrev pub Moment : Type 0
Moment = List ℕ × Readings

-- level cells at 20 °C, with that current, those pulses and that charger
unfoldable pub calm : ℤ → ℕ → Bool → Moment
calm current pulses charger = (replicate 4 37000, reading_of current (pos 200) (pos 200) (pos 200) pulses charger)

-- a quiet tick, and ones that differ from it in the current, in the pulses, in the charger
unfoldable pub still : Moment
unfolding calm
still = calm (pos 0) 0 false

unfoldable pub flow : ℤ → Moment
unfolding calm
flow current = calm current 0 false

unfoldable pub ridden : ℕ → Moment
unfolding calm
ridden pulses = calm (pos 0) pulses false

unfoldable pub plugged : Bool → Moment
unfolding calm
plugged charger = calm (pos 0) 0 charger

-- one that differs from it in the cells: cell 2 at v, the others at low
unfoldable pub cells : ℕ → ℕ → Moment
unfolding still
cells low v = (low ∷ v ∷ low ∷ low ∷ [], still.1)

-- DOC holds
unfoldable pub drawn : Moment
unfolding flow
drawn = flow (negsuc 59999)

-- UV, OV, OT and LT hold, each just at its limit
unfoldable pub storm : ℤ → Bool → Moment
storm current charger = (29000 ∷ 42000 ∷ 37000 ∷ 37000 ∷ [], reading_of current (pos 600) (pos 0) (pos 0) 0 charger)

-- n of them, two in turn
unfoldable pub alternately : {A : Type 0} → ℕ → A → A → List A
alternately zero x y = []
alternately (suc n) x y = x ∷ alternately n y x

-- ---- boards

-- 4 cells, 2000 pulses per km
unfoldable pub fresh : Board
unfolding start_board new_pack new_hire no_events statistics.cleared_at
fresh = (start_of 4 2000).board

-- the board after ticks; `unfolding after` opens all that a tick goes through
unfoldable pub after : Board → List Moment → Board
unfolding shape outcome_of first board_by steps later_of status_for guard_of holds_of waits_of recovers_of latched_of is event_of events_of recorded_all
    latch_event recovery_event faulty charge_off discharge_off add_of shifted packed statistics.ridden_of statistics.counted_of statistics.counts_of
after b [] = b
after b (m ∷ ms) = after (board_after b (tick m.0 m.1)) ms

unfoldable pub latched : Board → Conditions
latched b = b.pack.guard.latched

-- the events, oldest first, and their numbers
unfoldable pub kept : Board → List Event
unfolding latest
kept b = kept_of b.hire.events

unfoldable pub recorded : Board → List ℕ
unfolding kept
recorded b = map event_number (kept b)

-- ---- the facts

-- done: none of the ticks below is refused (its rows look at the start numbers and the readings alone)
pub accepted :
    map (λ m. outcome_in fresh (tick m.0 m.1))
    (cells 40000 41999 ∷ cells 40000 42000 ∷ cells 40000 41500 ∷ cells 40000 41499 ∷ cells 40000 40150 ∷ cells 40000 40151
    ∷ still ∷ flow (negsuc 59998) ∷ drawn ∷ ridden 1 ∷ ridden 39 ∷ ridden 40 ∷ ridden 400 ∷ plugged true ∷ plugged false
    ∷ storm (negsuc 59999) true ∷ storm (pos 30000) true ∷ storm (pos 30000) false ∷ [])
    ≡ replicate 18 Done
unfolding fresh after cells drawn ridden plugged storm
accepted = refl

-- n ticks after DOC last held: at tick 1, or at tick 21, and before that at tick 1
unfoldable pub since : ℕ → Board
unfolding after fresh drawn still
since n = after fresh (drawn ∷ replicate n still)

unfoldable pub since_again : ℕ → Board
unfolding after fresh drawn still
since_again n = after fresh (drawn ∷ replicate 19 still ++ drawn ∷ replicate n still)

-- charger event 0x64 or 0x65 when presence differs from the tick before (absent before the first)
pub charger_events :
    (recorded (after fresh (plugged false ∷ [])) ≡ [])
    × (recorded (after fresh (plugged false ∷ plugged true ∷ [])) ≡ 0x64 ∷ [])
    × (recorded (after fresh (plugged false ∷ plugged true ∷ plugged true ∷ [])) ≡ 0x64 ∷ [])
    × (recorded (after fresh (plugged false ∷ plugged true ∷ plugged true ∷ plugged false ∷ [])) ≡ 0x64 ∷ 0x65 ∷ [])
unfolding recorded fresh after plugged
charger_events = (refl, refl, refl, refl)

-- steps in order: charger event; conditions. Conditions in this order: UV, OV, OT, DOC, COC, ROC, LT (of DOC, COC and ROC at
-- most one holds at a tick)
pub in_order :
    (recorded (after fresh (storm (negsuc 59999) true ∷ [])) ≡ 0x64 ∷ 0x02 ∷ 0x03 ∷ 0x04 ∷ 0x05 ∷ 0x37 ∷ [])
    × (recorded (after fresh (storm (pos 30000) true ∷ [])) ≡ 0x64 ∷ 0x02 ∷ 0x03 ∷ 0x04 ∷ 0x06 ∷ 0x37 ∷ [])
    × (recorded (after fresh (storm (pos 30000) false ∷ [])) ≡ 0x02 ∷ 0x03 ∷ 0x04 ∷ 0x07 ∷ 0x37 ∷ [])
unfolding recorded fresh after storm
in_order = (refl, refl, refl)

-- the event list keeps the latest 62: of 63, the first is gone
pub the_latest_62 :
    (recorded (after fresh (alternately 62 (plugged true) (plugged false))) ≡ alternately 62 0x64 0x65)
    × (recorded (after fresh (alternately 63 (plugged true) (plugged false))) ≡ alternately 62 0x65 0x64)
unfolding recorded fresh after alternately plugged
the_latest_62 = (refl, refl)

-- 107 DOC latchings (not counting a condition at each tick it holds): three ticks of DOC are one, and three more after its
-- recovery another
pub counted_at_latching :
    (shown_by (after fresh (replicate 3 drawn)) 107 ≡ Some 1)
    × (shown_by (after fresh (replicate 3 drawn ++ replicate 50 still ++ replicate 3 drawn)) 107 ≡ Some 2)
unfolding shown_at statistics.register_of fresh after drawn still
counted_at_latching = (refl, refl)

-- 22 ticks with a charger, pulses, and every condition but ROC
pub used : Board
unfolding after fresh storm ridden drawn still
used = after fresh (storm (pos 30000) true ∷ ridden 400 ∷ drawn ∷ replicate 19 still)

pub handed : Board
unfolding used shape outcome_of first board_by handed_over new_hire no_events statistics.cleared_at
handed = board_after used handing

-- distance and latchings, lifetime at the clear; lifetime and status
abbrev looked_at : List ℕ
looked_at = 100 ∷ 105 ∷ 106 ∷ 107 ∷ 108 ∷ 109 ∷ 116 ∷ 32 ∷ 50 ∷ []

-- on a usable board handover refuses no record of 32 bytes. Events and statistics go to their start values; 116 takes the lifetime; status
-- becomes 0x97. Kept: the lifetime, latched conditions, waits; COC recovers 29 ticks later, DOC 31
pub a_handover :
    (map (shown_by used) looked_at ≡ map Some (20 ∷ 1 ∷ 1 ∷ 1 ∷ 1 ∷ 1 ∷ 0 ∷ 2 ∷ 0x9B ∷ []))
    × (recorded used ≡ 0x64 ∷ 0x02 ∷ 0x03 ∷ 0x04 ∷ 0x06 ∷ 0x37 ∷ 0x65 ∷ 0x7B ∷ 0x79 ∷ 0x73 ∷ 0x74 ∷ 0x05 ∷ [])
    × (outcome_in used handing ≡ Done)
    × (map (shown_by handed) looked_at ≡ map Some (0 ∷ 0 ∷ 0 ∷ 0 ∷ 0 ∷ 0 ∷ 2 ∷ 2 ∷ 0x97 ∷ []))
    × (recorded handed ≡ [])
    × (handed.hire ≡ new_hire 2)
    × (handed.pack ≡ used.pack)
    × ((latched handed).coc ≡ true)
    × ((latched handed).doc ≡ true)
    × (handed.pack.guard.waits.coc ≡ 29)
    × (handed.pack.guard.waits.doc ≡ 31)
    × (recorded (after handed (replicate 28 still)) ≡ [])
    × (recorded (after handed (replicate 30 still)) ≡ 0x76 ∷ [])
    × (recorded (after handed (replicate 31 still)) ≡ 0x76 ∷ 0x77 ∷ [])
unfolding shown_at reading_register statistics.register_of statistics.distance_of latched recorded used handed
a_handover = (refl, refl, refl, refl, refl, refl, refl, refl, refl, refl, refl, refl, refl, refl)
