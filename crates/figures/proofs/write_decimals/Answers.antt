-- A point and the last digits, or nothing. Assumes nothing.
use Rattle.figures.proofs.Texts.{no_places, some_places}
use borrow.Author.Rules.{rules}
use Rattle.figures.proofs.write_decimals.Goals as goal

pub returns-then-places-eq0 : goal.returns-then-places-eq0
returns-then-places-eq0 c =
    let args = c.args in
    record { wrote = no_places args.places args.number c.if-places-eq0.true; upper_bound = search rules }

pub returns : goal.returns
returns c =
    let digits = c.last_digits-digits in
    let all =
    some_places c.args.places c.args.number digits.result c.put-next.ensures
    c.put_text.ensures digits.ensures c.if-places-eq0.false c.requires.1 c.requires.0 in
    record { wrote = all.0; upper_bound = all.1 }
