-- Each digit in its place. Assumes nothing.
use Rattle.figures.proofs.Texts.{clock}
use Rattle.figures.proofs.clock_of.Goals as goal

pub returns : goal.returns
returns c =
    clock c.args.tick c.digit_of.ensures c.digit_of-2.ensures
    c.digit_of-3.ensures c.digit_of-4.ensures c.digit_of-5.ensures
    c.digit_of-6.ensures c.digit_of-7.ensures
