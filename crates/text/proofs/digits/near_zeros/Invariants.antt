-- Each turn leaves sixteen zeros out. Assumes nothing.
use Rattle.std.proofs.Common.{◌≡◌, ◌≤◌, length}
use Rattle.text.specs.Digits.{used}
use Rattle.text.proofs.digits.near_zeros.Given as goal

abbrev pub invariant-loop-front : goal.invariant-loop-front
invariant-loop-front l = (used l.rest ≡ used l.bytes) × (length l.rest ≤ length l.bytes)

abbrev pub decreases-loop-front : goal.decreases-loop-front
decreases-loop-front l = length l.rest
