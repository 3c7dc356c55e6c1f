-- All runs, if there is room for them. Assumes nothing.
use Rattle.drawing.proofs.InTurn.{put_left, put_nowhere}
use Rattle.drawing.proofs.runs.put_runs.Goals as goal

pub returns-then-left-gt0 : goal.returns-then-left-gt0
returns-then-left-gt0 c = put_left c.write.ensures c.left.ensures c.room_from.ensures c.if-left-gt0.true

pub returns : goal.returns
returns c = put_nowhere c.left.ensures c.room_from.ensures c.if-left-gt0.false
