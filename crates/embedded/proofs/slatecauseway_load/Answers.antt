-- What the board's own load answers is told. Assumes nothing.
use Rattle.embedded.proofs.slatecauseway_load.Goals as goal

pub returns : goal.returns
returns c = rw (c.answered.ensures, c.load.ensures)
