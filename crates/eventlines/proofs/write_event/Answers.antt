-- The parts of the line, one after the other. Assumes nothing.
use Rattle.eventlines.proofs.Line.{told_wrote}
use Rattle.eventlines.proofs.write_event.Goals as goal

pub returns : goal.returns
returns c =
    told_wrote c.args.tick c.args.event c.put_decimal-space.ensures c.put-number.ensures c.put_byte-end.ensures
    c.put.ensures c.if-event-eq0.false c.requires
