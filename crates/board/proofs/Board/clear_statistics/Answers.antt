-- The statistics are those of a clear, and the other parts stay. Assumes nothing.
use Rattle.board.proofs.Board.clear_statistics.Goals as goal

pub returns : goal.returns
returns c = rw (c.with_hire.ensures, c.with_statistics.ensures, c.cleared_at-fresh.ensures)
