-- Forth or back. Assumes nothing.
use Rattle.drawing.proofs.Outline.{edge_back, edge_on}
use Rattle.drawing.proofs.band.Side.edge.Goals as goal

pub returns-then-self : goal.returns-then-self
returns-then-self c = edge_back c.args.self.now.last c.args.k c.if-self.true c.requires

pub returns-else-self : goal.returns-else-self
returns-else-self c = edge_on c.args.self.now.last c.args.k c.if-self.false
