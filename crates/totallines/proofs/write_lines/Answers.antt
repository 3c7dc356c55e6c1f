-- Each turn writes one line more. Assumes nothing.
use native.Mathlib.Omega.{arith}
use Rattle.text.proofs.Writing.{each_room, each_more}
use Rattle.totallines.specs.TotalLines.{line_of}
use borrow.Author.Rules.{rules}
use Rattle.totallines.proofs.write_lines.Goals as goal

pub write_line-next-requires : goal.write_line-next-requires
write_line-next-requires c =
    let args = c.args in
    omega (arith, c.loop-value.invariant.1.place, each_room line_of args.values.now c.loop-value.value-index (omega arith))

pub loop-value-preserved : goal.loop-value-preserved
loop-value-preserved c =
    let args = c.args in
    let so_far = c.loop-value.invariant.1 in
    let one = c.write_line-next.ensures in
    (search rules, each_more line_of args.values.now c.loop-value.value-index so_far one (omega arith))
