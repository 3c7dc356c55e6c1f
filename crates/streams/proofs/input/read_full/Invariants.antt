-- Each turn puts a byte at least; what was read stands in the buffer. Assumes nothing.
use Rattle.std.proofs.Common.{◌≤◌, length, ◌+◌, ◌-◌}
use Rattle.streams.proofs.input.read_full.Given as goal

abbrev pub invariant-loop-next : goal.invariant-loop-next
invariant-loop-next g l = l.count + l.next.count ≤ length l.buffer

abbrev pub decreases-loop-next : goal.decreases-loop-next
decreases-loop-next g l = length l.buffer - l.count
