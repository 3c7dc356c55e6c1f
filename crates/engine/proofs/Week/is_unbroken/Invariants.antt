-- From the first tick on, tick by tick, until one breaks it. Assumes nothing.
use mathlib.Core.Bool.{true}
use Rattle.engine.proofs.Stretch.{Stretch}
use Rattle.engine.proofs.Week.is_unbroken.Given as goal

abbrev pub invariant-loop-tick : goal.invariant-loop-tick
invariant-loop-tick l = Stretch l.self.settings l.self.count l.self.records.now l.first l.ticks l.seen true l.tick
