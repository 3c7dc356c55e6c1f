-- Each turn writes one step more. Assumes nothing.
use Rattle.text.specs.Digits.{Wrote}
use Rattle.drawing.specs.Paths.{in_turn, step_at}
use Rattle.drawing.proofs.band.Side.write.Given as goal

abbrev pub invariant-loop-k : goal.invariant-loop-k
invariant-loop-k l = Wrote l.initial.out l.at (in_turn (step_at l.self.back l.self.heights.now l.self.last) l.k) l.next l.out
