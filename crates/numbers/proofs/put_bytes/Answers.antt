-- So many bytes are put. Assumes nothing.
use Rattle.std.proofs.Common.{rules, refl}
use Rattle.numbers.proofs.Writing.{none, one_put}
use Rattle.numbers.proofs.put_bytes.Goals as goal

pub loop-place-init : goal.loop-place-init
loop-place-init g c = none

pub loop-place-preserved : goal.loop-place-preserved
loop-place-preserved g c =
    one_put _ _ _ c.loop-place.invariant c.put_byte.ensures c.saturating_add.ensures (search rules) refl (search rules)
