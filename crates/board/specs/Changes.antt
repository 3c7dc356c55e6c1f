-- Frames: what an accepted request of bytes s changes (what it asks: crate `requests`; what it is answered: crate `answers`).
-- Assumes nothing.
use Rattle.std.specs.Prelude.{cond, List, [], ◌∷◌, ℕ, Err, Ok}
use Rattle.events.specs.Events.{no_events, sent_of}
use Rattle.statistics.specs.Statistics.{cleared_at}
use Rattle.settings.specs.Settings.{standing_of}
use Rattle.writes.specs.declared.Pair.{Pair}
use Rattle.writes.specs.Writes.{pairs_of, written_to}
use Rattle.requests.specs.declared.Query.{Query}
use Rattle.requests.specs.declared.Request.TheVariants as request
use Rattle.requests.specs.Requests.{marks, Asked}
use Rattle.board.specs.declared.Board.{Board}
use Rattle.board.specs.State.{with_settings, with_events, with_statistics}
use Rattle.board.specs.Deeds.{Deed, wrote, cleared, forgot, sent}

-- 0x02: option 01 clears events; 02 clears statistics: everything at zero, but the lifetime at the clear
abbrev pub cleared_events : Board → Board
cleared_events b = with_events b no_events

abbrev pub cleared_statistics : Board → Board
cleared_statistics b = with_statistics b (cleared_at b.pack.clock.seconds)

-- 0x10, 0x0B and 0x0D write registers
abbrev pub written : Board → List Pair → Board
written b ps = with_settings b (standing_of b.pack.settings (written_to b.pack.settings ps))

-- 0x11 marks what it sends
abbrev pub marked_by : Board → Query → Board
marked_by b q = with_events b (cond (marks q) (sent_of b.hire.events) b.hire.events)

-- these alone
unfoldable pub changed_by : Board → List ℕ → Asked → Board
changed_by b s (Err refusal) = b
changed_by b s (Ok request.ClearEvents) = cleared_events b
changed_by b s (Ok request.ClearStatistics) = cleared_statistics b
changed_by b s (Ok (request.Write f n)) = written b (pairs_of f s n)
changed_by b s (Ok (request.Read q)) = marked_by b q

-- and what it adds to the history
unfoldable pub asked_deeds : List ℕ → Asked → List Deed
asked_deeds s (Err refusal) = []
asked_deeds s (Ok request.ClearEvents) = forgot ∷ []
asked_deeds s (Ok request.ClearStatistics) = cleared ∷ []
asked_deeds s (Ok (request.Write f n)) = wrote (pairs_of f s n) ∷ []
asked_deeds s (Ok (request.Read q)) = cond (marks q) (sent ∷ []) []
