-- Of two that are connected, the half of their sum, by their bits. Assumes nothing.
use lib.IntN.{◌+ℤ◌}
use mir.Facts.{to_z-of_z}
use Rattle.cabinet.specs.Cabinet.{half}
use Rattle.cabinet.proofs.Laws.{half_by_bits, bits_of_connected}
use Rattle.cabinet.proofs.average.Goals as goal

pub returns : goal.returns
returns c =
    let a = c.args.first in
    let b = c.args.second in
    rw (
      c.of_connected.ensures,
      c.half_of_sum-both.ensures,
      c.to_bits-2.ensures,
      c.to_bits.ensures,
      to_z-of_z c.ranges.first,
      to_z-of_z c.ranges.second,
      half_by_bits a b c.ranges.first.sfits c.ranges.second.sfits,
    )
    (bits_of_connected a b (half (a +ℤ b)))
