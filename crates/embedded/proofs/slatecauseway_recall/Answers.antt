-- What the board's own recall answers is told. Assumes nothing.
use Rattle.embedded.proofs.slatecauseway_recall.Goals as goal

pub returns : goal.returns
returns c = rw (c.answered.ensures, c.recall.ensures)
