-- Each step is told of what the step before it gave. Assumes nothing.
use Rattle.board.specs.Tick.{guarded, recorded, status_set, watched}
use Rattle.board.proofs.Board.watch.Goals as goal

pub returns : goal.returns
unfolding watched status_set recorded guarded
returns c = rw (c.set_status-hire.ensures, c.record.ensures, c.events_of-events.ensures, c.guard_conditions-pack.ensures)
