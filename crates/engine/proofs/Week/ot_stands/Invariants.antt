-- The longest stretch first, each one shorter after it. Assumes nothing.
use Rattle.engine.proofs.Stretch.{Tries}
use Rattle.engine.proofs.Week.ot_stands.Given as goal

abbrev pub invariant-loop-first : goal.invariant-loop-first
invariant-loop-first l = Tries l.self.settings l.self.count l.self.records.now l.ticks l.first
