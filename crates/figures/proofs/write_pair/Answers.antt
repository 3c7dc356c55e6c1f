-- One part behind the other. Assumes nothing.
use native.Mathlib.Omega.{arith}
use Rattle.text.proofs.Writing.{join}
use borrow.Author.Rules.{rules}
use Rattle.figures.proofs.write_pair.Goals as goal

pub write_part-requires : goal.write_part-requires
write_part-requires c = (omega (arith, c.write_part-rest.ensures.upper_bound), search rules)

pub returns : goal.returns
returns c =
    let small = c.write_part.ensures in
    let large = c.write_part-rest.ensures in
    record { wrote = join large.wrote small.wrote; upper_bound = omega (arith, large.upper_bound, small.upper_bound) }
