-- What the board's own frame answers and leaves is told. Assumes nothing.
use borrow.Author.Rules.{rules}
use Rattle.embedded.proofs.Hands.{tells}
use Rattle.embedded.proofs.slatecauseway_frame.Goals as goal

pub returns : goal.returns
returns c = search (tells, rules)
