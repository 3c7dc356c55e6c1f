-- By its larger unit. Assumes nothing.
use borrow.Author.Tests.{lt-ltb, le-ltb}
use Rattle.figures.proofs.Texts.{first, other}
use Rattle.figures.proofs.write_long.Goals as goal

pub returns-then-ticks-lt-DAY : goal.returns-then-ticks-lt-DAY
returns-then-ticks-lt-DAY c =
    let text = c.write_pair.ensures in
    record { wrote = first _ _ text.wrote (lt-ltb _ 864000 c.if-ticks-lt-DAY.true); upper_bound = text.upper_bound }

pub returns : goal.returns
returns c =
    let text = c.write_pair-2.ensures in
    record { wrote = other _ _ text.wrote (le-ltb _ 864000 c.if-ticks-lt-DAY.false); upper_bound = text.upper_bound }
