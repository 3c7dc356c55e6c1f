-- Each step is told of what the step before it gave. Assumes nothing.
use Rattle.board.specs.Tick.{balanced, counted, switched, acted}
use Rattle.board.proofs.Board.act.Goals as goal

pub returns : goal.returns
unfolding acted switched counted balanced
returns c = rw (c.with_hire.ensures, c.switch-hire.ensures, c.count.ensures, c.balance.ensures)
