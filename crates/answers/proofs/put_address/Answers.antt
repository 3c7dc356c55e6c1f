-- Two bytes, two words and the end. Assumes nothing.
use mathlib.Core.Path.{refl}
use Rattle.numbers.proofs.Writing.{join_at}
use Rattle.replies.proofs.Writing.{reply}
use Rattle.answers.proofs.put_address.Goals as goal

pub returns : goal.returns
returns c = reply c.begin.ensures (join_at c.put_word.ensures c.put_word-2.ensures refl) c.seal.ensures refl
