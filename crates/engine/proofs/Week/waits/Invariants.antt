-- From the newest tick back to the first at which it held. Assumes nothing.
use Rattle.engine.proofs.Back.{WaitsBack}
use Rattle.engine.proofs.Week.waits.Given as goal

abbrev pub invariant-loop-tick : goal.invariant-loop-tick
invariant-loop-tick l = WaitsBack l.condition l.self.settings l.self.count l.self.records.now l.ticks l.tick
