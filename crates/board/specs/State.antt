-- The board's state: a pack, which is all that a handover keeps, and a hire, which is what one rider did and saw. A board with
-- one part anew.
-- Assumes nothing.
use Rattle.std.specs.Prelude.{Bool}
use Rattle.cabinet.specs.declared.Measured.{Measured}
use Rattle.cabinet.specs.Cabinet.{measured_of}
use Rattle.events.specs.declared.Events.{Events}
use Rattle.receiver.specs.declared.Receiver.{Receiver}
use Rattle.settings.specs.declared.Settings.{Settings}
use Rattle.statistics.specs.declared.Statistics.{Statistics}
use Rattle.pack.specs.declared.Pack.{Pack}
use Rattle.pack.specs.Pack as pack
use Rattle.hire.specs.declared.Hire.{Hire}
use Rattle.hire.specs.Hire as hire
use Rattle.board.specs.declared.Board.{Board}

-- a cell count outside 4 to 16 gives no usable board
abbrev pub usable : Board → Bool
usable b = pack.usable b.pack

abbrev pub with_pack : Board → Pack → Board
with_pack b x = record { pack = x; hire = b.hire }

abbrev pub with_hire : Board → Hire → Board
with_hire b x = record { pack = b.pack; hire = x }

abbrev pub with_settings : Board → Settings → Board
with_settings b x = with_pack b (pack.with_settings b.pack x)

abbrev pub with_events : Board → Events → Board
with_events b x = with_hire b (hire.with_events b.hire x)

abbrev pub with_statistics : Board → Statistics → Board
with_statistics b x = with_hire b (hire.with_statistics b.hire x)

abbrev pub with_receiver : Board → Receiver → Board
with_receiver b x = with_hire b (hire.with_receiver b.hire x)

-- what a cabinet asks for of the readings that the board holds
abbrev pub measured_in : Board → Measured
measured_in b = measured_of b.hire.sensed.readings b.hire.sensed.cells b.hire.sensed.extremes
