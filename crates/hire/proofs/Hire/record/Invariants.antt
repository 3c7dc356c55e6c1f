-- What is left to record after each turn ends in what all the numbers record. Assumes nothing.
use mathlib.Core.Path.{◌≡◌}
use lib.ListN.{drop}
use Rattle.hire.specs.Tick.{recorded_all}
use Rattle.hire.proofs.Hire.record.Given as goal

abbrev pub invariant-loop-number : goal.invariant-loop-number
invariant-loop-number l = recorded_all l.seconds l.events (drop l.number-index l.number-items) ≡ recorded_all l.seconds l.self.events l.number-items
