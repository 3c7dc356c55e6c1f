-- Zeros after the bytes, and then the CRC of those before them. Assumes nothing.
use Rattle.replies.proofs.Writing.{seal_law}
use borrow.Author.Rules.{rules}
use Rattle.replies.proofs.seal.Goals as goal

pub returns : goal.returns
returns c = search (seal_law, rules)
