-- The events are none, and the other parts stay. Assumes nothing.
use Rattle.board.proofs.Board.clear_events.Goals as goal

pub returns : goal.returns
returns c = rw (c.with_hire.ensures, c.with_events.ensures, c.none.ensures)
