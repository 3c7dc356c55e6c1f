-- What the board's own save answers and leaves is told. Assumes nothing.
use borrow.Author.Rules.{rules}
use Rattle.embedded.proofs.Hands.{tells}
use Rattle.embedded.proofs.slatecauseway_save.Goals as goal

pub returns : goal.returns
returns c = search (tells, rules)
