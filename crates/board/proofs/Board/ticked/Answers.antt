-- Each part is told of what the part before it gave. Assumes nothing.
use Rattle.board.specs.Tick.{ticked_of}
use Rattle.board.proofs.Board.ticked.Goals as goal

pub returns : goal.returns
unfolding ticked_of
returns c = rw (c.act.ensures, c.watch.ensures, c.sense.ensures, c.of-extremes.ensures)
