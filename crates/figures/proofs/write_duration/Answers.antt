-- By its largest unit. Assumes nothing.
use native.Mathlib.Omega.{arith}
use borrow.Author.Tests.{lt-ltb, le-ltb}
use Rattle.figures.proofs.Texts.{first, other}
use Rattle.figures.proofs.write_duration.Goals as goal

pub returns-then-ticks-lt-MINUTE : goal.returns-then-ticks-lt-MINUTE
returns-then-ticks-lt-MINUTE c =
    let text = c.write_seconds.ensures in
    record { wrote = first _ _ text.wrote (lt-ltb _ 600 c.if-ticks-lt-MINUTE.true); upper_bound = omega (arith, text.upper_bound) }

pub returns-then-ticks-lt-HOUR : goal.returns-then-ticks-lt-HOUR
returns-then-ticks-lt-HOUR c =
    let text = c.write_pair.ensures in
    record { wrote = other _ _ (first _ _ text.wrote (lt-ltb _ 36000 c.if-ticks-lt-HOUR.true)) (le-ltb _ 600 c.if-ticks-lt-MINUTE.false); upper_bound = text.upper_bound }

pub returns : goal.returns
returns c =
    let text = c.write_long.ensures in
    record { wrote = other _ _ (other _ _ text.wrote (le-ltb _ 36000 c.if-ticks-lt-HOUR.false)) (le-ltb _ 600 c.if-ticks-lt-MINUTE.false); upper_bound = text.upper_bound }
