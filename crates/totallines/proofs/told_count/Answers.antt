-- Five, or with a refusal six. Assumes nothing.
use borrow.Author.Rules.{rules}
use Rattle.totallines.proofs.told_count.Goals as goal

pub returns-in-Ok : goal.returns-in-Ok
returns-in-Ok c = (rw c.in-Ok.is, search rules)

pub returns-in-Err : goal.returns-in-Err
returns-in-Err c = (rw c.in-Err.is, search rules)
