-- The digits, and then the end. Assumes nothing.
use Rattle.totallines.proofs.Line.{line_wrote}
use Rattle.totallines.proofs.write_line.Goals as goal

pub returns : goal.returns
returns c = line_wrote c.args.value c.put_decimal-end.ensures c.put.ensures c.requires
