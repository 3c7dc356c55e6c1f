-- By the byte that is not there, or is another. Assumes nothing.
use Rattle.std.proofs.Common.{rules}
use Rattle.text.proofs.Standing.{too_short, differs}
use Rattle.text.proofs.words.after_word.Goals.{then-line-at-via-then-line-at, then-line-at-via-else-line-at+then-line-at-2}
use Rattle.text.proofs.words.after_word.Goals as goal

pub returns-then-line-at : goal.returns-then-line-at
returns-then-line-at c = elim c.then-line-at.branch [
  | then-line-at-via-then-line-at w ↦ too_short c.loop-code.invariant (search rules) (search rules)
  | then-line-at-via-else-line-at+then-line-at-2 w ↦ differs c.loop-code.invariant (search rules) (search rules) (search rules)
]
