-- Each turn goes one byte on. Assumes nothing.
use Rattle.std.proofs.Common.{◌≤◌, max, length}
use Rattle.text.specs.Lines.{is_end}
use Rattle.text.proofs.Places.{Ahead}
use Rattle.text.proofs.lines.line_end.Given as goal

abbrev pub invariant-loop-at : goal.invariant-loop-at
invariant-loop-at l = Ahead is_end l.block l.from l.at × (l.at ≤ max l.near (length l.block))
