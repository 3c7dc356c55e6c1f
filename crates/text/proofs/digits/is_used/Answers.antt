-- Of the bytes passed none is other than zero unless one was found. Assumes nothing.
use Rattle.std.proofs.Common.{rules}
use Rattle.text.proofs.Zeros.{one_more_zero}
use Rattle.text.proofs.digits.is_used.Goals as goal

pub loop-byte-preserved : goal.loop-byte-preserved
loop-byte-preserved c = one_more_zero c.args.bytes.now c.loop-byte.byte-index c.loop-byte.invariant (search rules)
