-- 0x11 has its mark set, and nothing else changes. Assumes nothing.
use Rattle.board.proofs.Board.marked.Goals as goal

pub returns-then-marks : goal.returns-then-marks
returns-then-marks c =
    rw (
      c.with_hire.ensures,
      c.with_events.ensures,
      c.sent.ensures,
      ← c.marks.ensures,
      c.if-marks.true,
    )

pub returns : goal.returns
returns c = rw (← c.marks.ensures, c.if-marks.false)
