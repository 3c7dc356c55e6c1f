-- A bit for each cell from the last down; the lowest cell is that of all. Assumes nothing.
use Rattle.std.proofs.Common.{arith}
use Rattle.cells.proofs.Downward.{none_taken, one_taken, room}
use borrow.Author.Rules.{rules}
use Rattle.cells.proofs.decision.Goals as goal

pub loop-cell-init : goal.loop-cell-init
loop-cell-init c = search (rules, none_taken)

pub overflow_add-bits : goal.overflow_add-bits
overflow_add-bits c = omega (arith, room 15 _ _ c.loop-cell.invariant c.in-Some.ensures.steps (search rules))

pub overflow_add-bits-in-loop-cell : goal.overflow_add-bits-in-loop-cell
overflow_add-bits-in-loop-cell c = omega (arith, room 15 _ _ c.loop-cell.invariant c.in-Some.ensures.steps (search rules))

pub loop-cell-preserved : goal.loop-cell-preserved
loop-cell-preserved c = one_taken _ _ c.loop-cell.invariant c.in-Some.ensures.steps (omega arith)
