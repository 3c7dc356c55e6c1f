-- What the board's own offer answers is told, with what it took. Assumes nothing.
use Rattle.embedded.proofs.slatecauseway_offer.Goals as goal

pub returns : goal.returns
returns c = rw (c.put_together.ensures, c.offer-heard.ensures)
