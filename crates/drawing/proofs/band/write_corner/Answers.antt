-- Two parts in a row. Assumes nothing.
use native.Mathlib.Omega.{arith}
use Rattle.text.proofs.Writing.{same_long}
use Rattle.drawing.proofs.Outline.{corner_long, corner_wrote}
use Rattle.drawing.proofs.band.write_corner.Goals as goal

pub write_part-next-requires : goal.write_part-next-requires
write_part-next-requires c = omega (arith, corner_long c.args.edge c.args.height)

pub write_part-requires : goal.write_part-requires
write_part-requires c =
    let args = c.args in
    let first = c.write_part-next.ensures in
    omega (arith, corner_long args.edge args.height, first.place, same_long first)

pub returns : goal.returns
returns c = corner_wrote c.args.edge c.args.height c.write_part-next.ensures c.write_part.ensures
