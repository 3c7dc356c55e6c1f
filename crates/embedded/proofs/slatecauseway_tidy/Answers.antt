-- What the store's own tidy comes to is told by its number. Assumes nothing.
use borrow.Author.Rules.{rules}
use Rattle.embedded.proofs.Hands.{tidied}
use Rattle.embedded.proofs.slatecauseway_tidy.Goals as goal

pub returns : goal.returns
returns c = search (tidied, rules)
