-- The words of the query, then the first two bytes, the length byte, the words and the end. Assumes nothing.
use Prim.Native.Nat.{◌+◌, ◌*◌}
use native.Mathlib.Omega.{arith}
use Rattle.requests.specs.Requests.{high_first}
use Rattle.replies.specs.Replies.{word16}
use Rattle.answers.specs.Making.{word_of}
use Rattle.answers.proofs.Made.{sent}
use Rattle.answers.proofs.Blocks.{of_row}
use Rattle.answers.proofs.send.Goals as goal

pub returns : goal.returns
returns c =
    let a = c.args in
    let row =
    of_row (word16 (high_first a.query)) (word_of a.pack a.hire a.request.now a.query) a.count c.words_of-words.ensures
    c.requires.1.1 (rw c.high_first.ensures at c.put_words.ensures) in
    sent a.pack a.hire a.request.now a.query c.has_length.result a.count {to = c.put_length-from.result + 2 * a.count} c.has_length.ensures
    c.command.ensures c.begin.ensures c.put_length-from.ensures row c.seal.ensures (omega arith) (omega arith)
