-- Each turn writes one digit more, and the comma behind it. Assumes nothing.
use native.Mathlib.Omega.{arith}
use Rattle.text.proofs.Writing.{put_wrote}
use Rattle.figures.proofs.Texts.{begun, one_more, split_long, all_done}
use borrow.Author.Rules.{rules}
use Rattle.figures.proofs.write_grouped.Goals as goal

pub loop-i-init : goal.loop-i-init
loop-i-init c = begun

pub write_comma-next-requires : goal.write_comma-next-requires
write_comma-next-requires c =
    let loop = c.loop-i in
    let long = split_long c.args.digits.now loop.i (omega arith) in
    let digit = put_wrote c.put-comma.ensures (omega (arith, loop.invariant.ends)) in
    omega (arith, digit.place, loop.invariant.ends)

pub loop-i-preserved : goal.loop-i-preserved
loop-i-preserved c =
    let loop = c.loop-i in
    let digits = c.args.digits.now in
    let long = split_long digits loop.i (omega arith) in
    one_more digits loop.i loop.invariant c.put-comma.ensures c.write_comma-next.ensures (omega arith)
    (omega (arith, loop.invariant.ends))

pub returns : goal.returns
returns c = all_done c.args.digits.now c.loop-i.i c.loop-i.invariant (search rules)
