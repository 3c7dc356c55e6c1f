-- Each step is told of what the step before it gave. Assumes nothing.
use Rattle.board.specs.Tick.{readings_kept, time_passed, ridden, sensed}
use Rattle.board.proofs.Board.sense.Goals as goal

pub returns : goal.returns
unfolding sensed ridden time_passed readings_kept
returns c = rw (c.ride-hire.ensures, c.keep_readings.ensures, c.pass_time-pack.ensures)
