-- The receiver is new, and the other parts stay. Assumes nothing.
use Rattle.board.proofs.Board.with_receiver.Goals as goal

pub returns : goal.returns
returns c = rw (c.with_hire.ensures, c.with_receiver.ensures)
