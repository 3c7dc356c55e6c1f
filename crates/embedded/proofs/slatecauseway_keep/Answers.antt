-- What the board's own keep answers and leaves is told. Assumes nothing.
use borrow.Author.Rules.{rules}
use Rattle.embedded.proofs.Hands.{kept}
use Rattle.embedded.proofs.slatecauseway_keep.Goals as goal

pub returns : goal.returns
returns c = search (kept, rules)
