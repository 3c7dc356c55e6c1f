-- From the newest tick back to the first that decides. Assumes nothing.
use Rattle.engine.proofs.Back.{LooksBack}
use Rattle.engine.proofs.Week.stands.Given as goal

abbrev pub invariant-loop-tick : goal.invariant-loop-tick
invariant-loop-tick l = LooksBack l.condition l.self.settings l.self.count l.self.records.now l.ticks l.tick
