-- The lowest four bits pick what four shifts make of them; the bits above only move down. Assumes nothing.
use mathlib.Core.Path.{◌∙◌, ap}
use Prim.Native.Nat.{◌/◌, ◌%◌}
use native.Mathlib.Omega.{arith}
use lib.Bits.{bit_xor}
use Rattle.crc.proofs.Carried.{by_parts}
use Rattle.crc.proofs.half_out.Goals as goal

pub returns : goal.returns
returns c =
    let sum = c.args.sum in
    ap (bit_xor (sum / 16)) (c.requires.entry (sum % 16) (omega arith)) ∙ by_parts 4 sum
