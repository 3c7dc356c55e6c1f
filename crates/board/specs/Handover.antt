-- Handover. Events and the 0x11 mark, statistics, readings, speed window, charger presence and switches go to their start values;
-- 116 takes the lifetime; status becomes 0x97 and the balancing bits 0. Kept: start numbers, settings, lifetime with its
-- tenths, latched conditions, waits and, by W-204 of document 02, the sensors remembered. Nothing else may be kept.
-- Assumes nothing.
use Rattle.std.specs.Prelude.{ℕ}
use Rattle.desk.specs.declared.Record.{Record}
use Rattle.statistics.specs.Statistics.{bill_of}
use Rattle.hire.specs.declared.Hire.{Hire}
use Rattle.hire.specs.Hire.{new_hire}
use Rattle.board.specs.declared.Board.{Board}
use Rattle.board.specs.State.{with_hire}

-- what went through a handover is a new hire
abbrev pub handed_hire : Board → Hire
handed_hire b = new_hire b.pack.clock.seconds

-- the pack as it was, and a new hire
unfoldable pub handed_over : Board → Board
handed_over b = with_hire b (handed_hire b)

-- W-214: "At handover the desk gives a pack number and gets a record": of the statistics as the rider leaves them
abbrev pub record_for : Board → ℕ → Record
record_for b number = bill_of b.hire.statistics number b.pack.per_km b.pack.clock.seconds
