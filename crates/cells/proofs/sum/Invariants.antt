-- The loop gathers the first 16 cells, each at most 65,535. Assumes nothing.
use Rattle.std.proofs.Common.{◌+◌, ◌*◌, ◌≤◌}
use Rattle.laws.proofs.Folds.{Gathered}
use Rattle.cells.proofs.sum.Given as goal

abbrev pub invariant-loop-cell : goal.invariant-loop-cell
invariant-loop-cell l = Gathered ◌+◌ 0 l.all l.cell-items l.cell-index × (l.all ≤ 65535 * l.cell-index)
