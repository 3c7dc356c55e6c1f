-- What the board's own tick answers is told. Assumes nothing.
use Rattle.embedded.proofs.slatecauseway_tick.Goals as goal

pub returns : goal.returns
returns c = rw (c.answered.ensures, c.tick.ensures)
