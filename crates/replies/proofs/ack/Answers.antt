-- Three bytes in a row, and the end. Assumes nothing.
use Rattle.replies.proofs.Writing.{reply}
use borrow.Author.Rules.{rules}
use Rattle.replies.proofs.ack.Goals as goal

pub returns : goal.returns
returns c = search (reply, rules)
