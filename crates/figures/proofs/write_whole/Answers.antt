-- With commas or without. Assumes nothing.
use native.Mathlib.Omega.{arith}
use Rattle.text.proofs.Decimal.{twenty}
use Rattle.text.proofs.Writing.{put_wrote}
use Rattle.figures.proofs.Texts.{first, other}
use borrow.Author.Rules.{rules}
use Rattle.figures.proofs.write_whole.Goals as goal

pub returns-then-has_commas : goal.returns-then-has_commas
returns-then-has_commas c =
    let count = c.write_count.ensures in
    record { wrote = first _ _ count.wrote c.if-has_commas.true; upper_bound = count.upper_bound }

pub returns : goal.returns
returns c =
    let long = twenty c.args.number (search rules) in
    let digits = put_wrote c.put_decimal.ensures (omega arith) in
    record { wrote = other _ _ digits c.if-has_commas.false; upper_bound = omega (arith, digits.place) }
