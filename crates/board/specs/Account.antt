-- A second account of the board, from the history of calls and not from a state that is stepped. A history is a list, the newest
-- first. Each thing that the board shows is a function of the deeds so far, and a deed is what a call that is done did.
-- Assumes nothing.
pub mod Kept
pub mod LastTick
pub mod Recorded
pub mod SinceTheClear
pub mod OffTheLine
use Rattle.std.specs.Prelude.{Bool, cond, List, [], ◌∷◌, ◌++◌, ℕ}
use Rattle.refusals.specs.Refusals.{Outcome, is_done}
use Rattle.receiver.specs.Heard.{after_hearing}
use Rattle.board.specs.declared.Board.{Board}
pub use Rattle.board.specs.Deeds.{Deed, took, wrote, cleared, forgot, sent, handed, heard, fetched, loaded}
pub use Rattle.board.specs.Deeds.{Row, row, clears, forgets, hands, drops, settles, ticking, writing}
use Rattle.board.specs.Calls.{Call, shape, outcome_of, lets_go}
unfoldable pub use Rattle.board.specs.Account.Kept.{last_written, settings_at, count_at, seconds_at, clock_at, moment_of, moment, moments_at}
unfoldable pub use Rattle.board.specs.Account.Kept.{latched_at, waits_at, remembered_at}
unfoldable pub use Rattle.board.specs.Account.LastTick.{sensed_of, sensed_at, window_at, charger_at, status_at, decision_at, balancing_at}
unfoldable pub use Rattle.board.specs.Account.LastTick.{charge_at, discharge_at}
unfoldable pub use Rattle.board.specs.Account.Recorded.{some_event, newest_first, numbers_of, recorded_now, loading, kept_since, new_since}
unfoldable pub use Rattle.board.specs.Account.Recorded.{events_at}
unfoldable pub use Rattle.board.specs.Account.SinceTheClear.{latching, latchings, entering, externals, coldest_of, hottest_of}
unfoldable pub use Rattle.board.specs.Account.SinceTheClear.{temperatures_of, pulses_at, positive_at, negative_at, statistics_at}
unfoldable pub use Rattle.board.specs.Account.SinceTheClear.{distance_at}
unfoldable pub use Rattle.board.specs.Account.OffTheLine.{hearing, heard_at, held_at}

-- ---- the whole board, from the history

unfoldable pub board_at : ℕ → ℕ → List Deed → Board
board_at cells per_km h =
    record {
      pack =
          record {
            settings = settings_at h;
            guard = record { latched = latched_at h; waits = waits_at h; remembered = remembered_at h };
            clock = clock_at h;
            cells = cells;
            per_km = per_km;
          };
      hire =
          record {
            sensed = sensed_at h;
            window = window_at h;
            events = events_at h;
            statistics = statistics_at h;
            status = status_at h;
            decision = decision_at h;
            balancing = balancing_at h;
            charge = charge_at h;
            discharge = discharge_at h;
            receiver = after_hearing (heard_at h);
          };
    }

-- ---- which calls are done: a history with what a call did after it. A refused call, and one that only reads, did nothing

-- what a call comes to after a history, on a board with those start numbers
abbrev pub outcome_at : ℕ → ℕ → List Deed → Call → Outcome
outcome_at cells per_km h c = outcome_of (board_at cells per_km h) (shape c)

-- where it is done its deeds are added; a fetch that is answered with a NACK lets the held frame go
abbrev pub history_by : List Deed → Outcome → List Deed → Bool → List Deed
history_by h outcome deeds lets_go = cond (is_done outcome) (deeds ++ h) (cond lets_go (fetched ∷ h) h)

unfoldable pub calling : ℕ → ℕ → List Deed → Call → List Deed
calling cells per_km h c =
    history_by h (outcome_at cells per_km h c) ((shape c).deeds (board_at cells per_km h)) (lets_go (shape c) (outcome_at cells per_km h c))

-- the deeds of a history of calls
unfoldable pub deeds_of : ℕ → ℕ → List Call → List Deed
deeds_of cells per_km [] = []
deeds_of cells per_km (c ∷ cs) = calling cells per_km (deeds_of cells per_km cs) c
