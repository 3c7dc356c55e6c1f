-- A corner, or nothing between equal neighbours. Assumes nothing.
use mathlib.Core.Path.{ap}
use native.Mathlib.Omega.{arith}
use lib.ListN.{length}
use Rattle.drawing.proofs.Outline.{uneven, level_wrote, uneven_wrote}
use Rattle.drawing.proofs.band.Side.write_step.Goals as goal

pub returns-then-before-behind : goal.returns-then-before-behind
returns-then-before-behind c =
    let args = c.args in
    level_wrote args.self.now.back args.self.now.heights.now args.edge c.height-before.ensures c.height-behind.ensures
    c.if-before-behind.true

pub write_corner-requires : goal.write_corner-requires
write_corner-requires c =
    let args = c.args in
    let corner = uneven args.self.now.back args.self.now.heights.now args.edge c.height-before.ensures
    c.height-behind.ensures c.onward.ensures c.if-before-behind.false in
    omega (arith, ap length corner, c.requires.1)

pub returns : goal.returns
returns c =
    let args = c.args in
    uneven_wrote args.self.now.back args.self.now.heights.now args.edge c.write_corner.ensures
    c.height-before.ensures c.height-behind.ensures c.onward.ensures c.if-before-behind.false
