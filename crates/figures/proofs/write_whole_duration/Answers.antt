-- Each part behind the one before it. Assumes nothing.
use native.Mathlib.Omega.{arith}
use Rattle.text.proofs.Writing.{join}
use borrow.Author.Rules.{rules}
use Rattle.figures.proofs.write_whole_duration.Goals as goal

pub write_part-minutes-requires : goal.write_part-minutes-requires
write_part-minutes-requires c = (omega (arith, c.write_part-hours.ensures.upper_bound), search rules)

pub write_part-seconds-requires : goal.write_part-seconds-requires
write_part-seconds-requires c = (
  omega (arith, c.write_part-minutes.ensures.upper_bound, c.write_part-hours.ensures.upper_bound),
  search rules,
)

pub write_seconds-requires : goal.write_seconds-requires
write_seconds-requires c = omega (arith, c.write_part-seconds.ensures.upper_bound, c.write_part-minutes.ensures.upper_bound, c.write_part-hours.ensures.upper_bound)

pub returns : goal.returns
returns c =
    let seconds = c.write_seconds.ensures in
    let d = c.write_part-hours.ensures in
    let h = c.write_part-minutes.ensures in
    let m = c.write_part-seconds.ensures in
    record { wrote = join (join (join d.wrote h.wrote) m.wrote) seconds.wrote; upper_bound = omega (arith, d.upper_bound, h.upper_bound, m.upper_bound, seconds.upper_bound) }
