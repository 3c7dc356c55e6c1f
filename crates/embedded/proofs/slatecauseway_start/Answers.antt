-- What the board's own start answers is told. Assumes nothing.
use Rattle.embedded.proofs.slatecauseway_start.Goals as goal

pub returns : goal.returns
returns c = rw (c.answered.ensures, c.start.ensures)
