-- Rounded up. Assumes nothing.
use Rattle.drawing.proofs.Times.{eighties}
use Rattle.drawing.proofs.marks.reaches.Goals as goal

pub returns : goal.returns
returns c = eighties c.args.step c.args.ticks
