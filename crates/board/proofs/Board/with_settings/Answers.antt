-- The pack with those settings, and the same hire. Assumes nothing.
use Rattle.board.proofs.Board.with_settings.Goals as goal

pub returns : goal.returns
returns c = rw c.with_settings-pack.ensures
