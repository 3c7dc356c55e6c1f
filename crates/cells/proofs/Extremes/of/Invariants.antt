-- The loop gathers the lowest and the highest of the cells passed. Assumes nothing.
use Rattle.std.proofs.Common.{min, max}
use Rattle.laws.proofs.Folds.{Gathered}
use Rattle.cells.proofs.Extremes.of.Given as goal

abbrev pub invariant-loop-cell : goal.invariant-loop-cell
invariant-loop-cell l = Gathered min 65535 l.lowest l.cells l.cell-index × Gathered max 0 l.highest l.cells l.cell-index
