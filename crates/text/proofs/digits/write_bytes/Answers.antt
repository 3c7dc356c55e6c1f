-- Each turn writes one byte more. Assumes nothing.
use Rattle.std.proofs.Common.{arith, rules}
use Rattle.text.specs.Digits.{spaced_text}
use Rattle.text.proofs.Writing.{bytes_place, each_more}
use Rattle.text.proofs.digits.write_bytes.Goals as goal

pub write_spaced-next-requires : goal.write_spaced-next-requires
write_spaced-next-requires c =
    let loop = c.loop-byte in
    omega (arith, bytes_place c.args.bytes.now loop.byte-index loop.invariant.1 (search rules))

pub loop-byte-preserved : goal.loop-byte-preserved
loop-byte-preserved c =
    let loop = c.loop-byte in
    (search rules, each_more spaced_text c.args.bytes.now loop.byte-index loop.invariant.1 c.write_spaced-next.ensures (search rules))
