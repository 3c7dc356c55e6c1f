-- So many bytes are put. Assumes nothing.
use Rattle.std.proofs.Common.{take}
use Rattle.numbers.specs.Numbers.{Wrote}
use Rattle.numbers.proofs.put_bytes.Given as goal

abbrev pub invariant-loop-place : goal.invariant-loop-place
invariant-loop-place g l = Wrote l.initial.bytes l.at (take l.place l.byte-items) l.bytes
