-- Each turn passes sixteen bytes, none of them an LF. Assumes nothing.
use Rattle.std.proofs.Common.{◌+◌, ◌-◌, length, arith}
use Rattle.text.proofs.Places.{several_on}
use Rattle.text.proofs.Writing.{has}
use Rattle.text.proofs.lines.far_end.Goals as goal

pub loop-from-preserved : goal.loop-from-preserved
loop-from-preserved c =
    let room = has (c.loop-from.at + 16) (length c.args.block.now) c.has_room.ensures c.loop-from-test.true in
    several_on 16 (c.loop-from.at + 16 - c.loop-from.at) c.loop-from.invariant room (omega arith) (c.has_end.ensures c.if-has_end.false)
