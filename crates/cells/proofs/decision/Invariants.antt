-- A bit for each cell from the last down; the lowest cell is that of all. Assumes nothing.
use Rattle.std.proofs.Common.{take}
use Rattle.cells.specs.Cells.{decides}
use Rattle.cells.proofs.Downward.{Taken}
use Rattle.cells.proofs.decision.Given as goal

abbrev pub invariant-loop-cell : goal.invariant-loop-cell
invariant-loop-cell l = Taken (decides l.r303 l.r308 l.low) l.bits (take 16 l.cells) l.cell-iterator.iter.rest.now
