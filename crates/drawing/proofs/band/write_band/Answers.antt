-- The parts of the outline, one after the other. Assumes nothing.
use mathlib.Core.Path.{ap}
use Prim.Native.Nat.{ℕ, ◌+◌}
use native.Mathlib.Omega.{arith}
use lib.ListN.{length}
use Rattle.text.proofs.Writing.{same_long}
use Rattle.drawing.proofs.Outline.{outline_long, opened, outline_wrote}
use Rattle.drawing.specs.Paths.{corner_text}
use Rattle.drawing.proofs.band.write_band.Goals as goal

pub write-turning-requires : goal.write-turning-requires
write-turning-requires c =
    let first = opened c.args.last c.args.tops.now c.args.bottoms.now c.height.ensures
    c.put_text-first.ensures c.put_decimal-opened.ensures c.requires.1 in
    omega
    (arith, outline_long c.args.last c.args.tops.now c.args.bottoms.now, first.place, same_long first)

pub write_corner-turned-requires : goal.write_corner-turned-requires
write_corner-turned-requires c =
    let first = opened c.args.last c.args.tops.now c.args.bottoms.now c.height.ensures
    c.put_text-first.ensures c.put_decimal-opened.ensures c.requires.1 in
    let along = c.write-turning.ensures in
    let corner = ap (λ (n : ℕ). length (corner_text (c.args.last + 1) n)) c.height-2.ensures in
    omega (
      arith,
      outline_long c.args.last c.args.tops.now c.args.bottoms.now,
      corner,
      first.place,
      same_long first,
      along.place,
      same_long along,
    )

pub write-returned-requires : goal.write-returned-requires
write-returned-requires c =
    let first = opened c.args.last c.args.tops.now c.args.bottoms.now c.height.ensures
    c.put_text-first.ensures c.put_decimal-opened.ensures c.requires.1 in
    let along = c.write-turning.ensures in
    let turn = c.write_corner-turned.ensures in
    let corner = ap (λ (n : ℕ). length (corner_text (c.args.last + 1) n)) c.height-2.ensures in
    omega (
      arith,
      outline_long c.args.last c.args.tops.now c.args.bottoms.now,
      corner,
      first.place,
      same_long first,
      along.place,
      same_long along,
      turn.place,
      same_long turn,
    )

pub returns : goal.returns
returns c =
    let args = c.args in
    let first = opened c.args.last c.args.tops.now c.args.bottoms.now c.height.ensures
    c.put_text-first.ensures c.put_decimal-opened.ensures c.requires.1 in
    outline_wrote args.last args.tops.now args.bottoms.now first c.write-turning.ensures
    c.height-2.ensures c.write_corner-turned.ensures
    c.write-returned.ensures c.put_text.ensures c.requires.1
