-- The letter, and the number. Assumes nothing.
use Rattle.drawing.proofs.Outline.{part_wrote}
use Rattle.drawing.proofs.room.write_part.Goals as goal

pub returns : goal.returns
returns c = part_wrote c.args.letter c.args.number c.put-next.ensures c.put_decimal.ensures c.requires
