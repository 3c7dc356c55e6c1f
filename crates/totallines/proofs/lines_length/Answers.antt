-- Each turn counts the bytes of one line more. Assumes nothing.
use native.Mathlib.Omega.{arith}
use Rattle.text.proofs.Writing.{each_long}
use Rattle.totallines.specs.TotalLines.{line_of}
use Rattle.totallines.proofs.lines_length.Goals as goal

pub loop-value-preserved : goal.loop-value-preserved
loop-value-preserved c =
    let loop = c.loop-value in
    let more = each_long line_of c.args.values.now loop.value-index (omega arith) in
    (omega (arith, c.line_length-all.ensures.0), omega (arith, c.line_length-all.ensures.1))
