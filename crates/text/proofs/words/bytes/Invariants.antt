-- Each turn reads one word more and enters it. Assumes nothing.
use Rattle.std.proofs.Common.{◌≡◌, ◌-◌, length}
use Rattle.text.specs.Numbers.{byte_of}
use Rattle.text.proofs.Entering.{Entering}
use Rattle.text.proofs.words.bytes.Given as goal

abbrev pub invariant-loop-at : goal.invariant-loop-at
invariant-loop-at l =
    (length l.bytes ≡ length l.initial.bytes)
    × Entering byte_of l.line l.from l.initial.bytes l.at l.count l.bytes

abbrev pub decreases-loop-at : goal.decreases-loop-at
decreases-loop-at l = length l.initial.bytes - l.count
