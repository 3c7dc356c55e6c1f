-- Each turn writes one line more. Assumes nothing.
use native.Mathlib.Omega.{arith}
use Rattle.text.proofs.Writing.{each_room, each_more}
use Rattle.eventlines.specs.EventLines.{line_of}
use borrow.Author.Rules.{rules}
use Rattle.eventlines.proofs.write_events.Goals as goal

pub write_event-next-requires : goal.write_event-next-requires
write_event-next-requires c =
    let args = c.args in
    let loop = c.loop-event in
    omega (arith, loop.invariant.2.place, each_room (line_of args.tick) args.events loop.event-index (omega arith))

pub loop-event-preserved : goal.loop-event-preserved
loop-event-preserved c =
    let args = c.args in
    let loop = c.loop-event in (
      search rules,
      search rules,
      each_more (line_of args.tick) args.events loop.event-index loop.invariant.2 c.write_event-next.ensures (omega arith),
    )
