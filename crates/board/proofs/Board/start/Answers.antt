-- Pack and hire are what their calls give, and so is what it comes to. Assumes nothing.
use Rattle.board.specs.Start.{start_board}
use Rattle.board.proofs.Board.start.Goals as goal

pub returns : goal.returns
unfolding start_board
returns c = rw (c.with_outcome.ensures, c.outcome.ensures, c.new-hire.ensures, c.new-pack.ensures)
