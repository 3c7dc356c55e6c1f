-- Each turn reads one word more and enters it. Assumes nothing.
use Rattle.std.proofs.Common.{◌≡◌, ◌-◌, length}
use Rattle.text.specs.Numbers.{number_of}
use Rattle.text.proofs.Entering.{Entering}
use Rattle.text.proofs.words.numbers.Given as goal

abbrev pub invariant-loop-at : goal.invariant-loop-at
invariant-loop-at l =
    (length l.numbers ≡ length l.initial.numbers)
    × Entering (number_of 65535) l.line l.from l.initial.numbers l.at l.count l.numbers

abbrev pub decreases-loop-at : goal.decreases-loop-at
decreases-loop-at l = length l.initial.numbers - l.count
