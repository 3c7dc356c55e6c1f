-- The minus, the whole part and the places, one behind the other. Assumes nothing.
use Rattle.std.proofs.Math.Nat.{one-le-pow}
use native.Mathlib.Omega.{arith}
use Rattle.figures.proofs.Texts.{figure_wrote}
use Rattle.figures.proofs.write_figure.Goals as goal

pub write_whole-point-requires : goal.write_whole-point-requires
write_whole-point-requires c = omega (arith, c.write_minus-whole.ensures.upper_bound)

pub write_decimals-requires : goal.write_decimals-requires
write_decimals-requires c = (
  omega (arith, c.write_whole-point.ensures.upper_bound, c.write_minus-whole.ensures.upper_bound),
  omega (arith, c.min-held.ensures),
)

pub returns : goal.returns
returns c =
    let args = c.args in
    let places = c.write_decimals.ensures in
    let whole = c.write_whole-point.ensures in record {
      wrote =
          figure_wrote args.has_commas args.is_negative args.size args.places c.min-held.result
          c.pow.result c.write_minus-whole.ensures.wrote whole.wrote places.wrote c.pow.ensures
          c.min-held.ensures;
      upper_bound = omega (arith, places.upper_bound, whole.upper_bound, c.write_minus-whole.ensures.upper_bound);
    }

pub nonzero_div-size : goal.nonzero_div-size
nonzero_div-size c = omega (arith, one-le-pow c.min-held.result 10 (omega arith))
