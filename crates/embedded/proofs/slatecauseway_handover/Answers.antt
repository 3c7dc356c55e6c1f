-- What the board's own handover answers and leaves is told. Assumes nothing.
use borrow.Author.Rules.{rules}
use Rattle.embedded.proofs.Hands.{tells}
use Rattle.embedded.proofs.slatecauseway_handover.Goals as goal

pub returns : goal.returns
returns c = search (tells, rules)
