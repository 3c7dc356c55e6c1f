-- The hour, a colon and two digits. Assumes nothing.
use Rattle.drawing.proofs.Times.{clock_put}
use Rattle.drawing.proofs.marks.put_clock.Goals as goal

pub returns : goal.returns
returns c = clock_put c.args.second c.put_around.ensures c.digit_of.ensures c.digit_of-2.ensures
