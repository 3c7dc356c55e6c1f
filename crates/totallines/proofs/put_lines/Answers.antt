-- The values that are told, a line each. Assumes nothing.
use mathlib.Core.Path.{sym}
use native.Mathlib.Omega.{arith}
use lib.ListN.{length-take}
use lib.Seq.{length-take-le}
use Rattle.totallines.proofs.Line.{told_put}
use Rattle.totallines.proofs.put_lines.Goals as goal

pub slice_bounds-values-end : goal.slice_bounds-values-end
slice_bounds-values-end c = omega (arith, c.told_count-count.ensures.1)

pub slice_bounds-put_values-end : goal.slice_bounds-put_values-end
slice_bounds-put_values-end c = sym (length-take-le _ _ (omega (arith, c.told_count-count.ensures.1)))

pub put_values-requires : goal.put_values-requires
put_values-requires c = rw length-take (omega arith)

pub returns : goal.returns
returns c =
    told_put c.args.billed.outcome _ _ _ _ _ c.told_count-count.ensures.0 c.number_of.ensures
    c.put_values.ensures
