-- Each byte is that of its place; past the largest place there is none. Assumes nothing.
use Rattle.std.proofs.Common.{rules, ◌∙◌, arith}
use Rattle.numbers.proofs.Writing.{largest, one_more}
use Rattle.numbers.proofs.bytes_from.Goals as goal

pub loop-place-preserved : goal.loop-place-preserved
loop-place-preserved g c =
    let bytes = c.args.bytes.now in
    let at = c.args.at in
    let place = c.loop-place.place in
    let past = c.args.past in
    let e = rw c.saturating_add.ensures at c.byte_or.ensures in
    let here = e ∙ largest bytes at place past (search rules) in
    (search rules, one_more bytes c.loop-place.byte-items at place c.byte_or.result past (omega arith) here c.loop-place.invariant.1)
