-- Four bytes in a row, and the end. Assumes nothing.
use Rattle.numbers.proofs.Writing.{two}
use Rattle.replies.proofs.Writing.{reply}
use borrow.Author.Rules.{rules}
use Rattle.replies.proofs.nack.Goals as goal

pub returns : goal.returns
returns c = search (reply, two, rules)
