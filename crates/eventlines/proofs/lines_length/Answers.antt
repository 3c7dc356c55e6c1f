-- Each turn counts the bytes of one line more. Assumes nothing.
use native.Mathlib.Omega.{arith}
use Rattle.text.proofs.Writing.{each_long}
use Rattle.eventlines.specs.EventLines.{line_of}
use borrow.Author.Rules.{rules}
use Rattle.eventlines.proofs.lines_length.Goals as goal

pub loop-event-preserved : goal.loop-event-preserved
loop-event-preserved c =
    let loop = c.loop-event in
    let more = each_long (line_of c.args.tick) c.args.events loop.event-index (omega arith) in
    (search rules, omega (arith, c.line_length-all.ensures.0), omega (arith, c.line_length-all.ensures.1))
