-- The loop fills the words one after the other. Assumes nothing.
use Rattle.std.proofs.Common.{arith}
use Rattle.laws.proofs.Rows.{begun, next, done}
use Rattle.numbers.proofs.words.Goals as goal

pub loop-i-init : goal.loop-i-init
loop-i-init g c f h = begun

pub loop-i-preserved : goal.loop-i-preserved
loop-i-preserved g c f h =
    let so_far = rw c.up_to_127-i-end.ensures at c.loop-i-test.true in
    let word = h c.loop-i.i c.word.result (omega arith) c.word.ensures in
    rw c.from.ensures (next (c.loop-i.invariant f h) so_far (omega arith) word)

pub returns : goal.returns
returns g c f h =
    let all = rw c.up_to_127-i-end.ensures at c.loop-i-test.false in done (c.loop-i.invariant f h) all
