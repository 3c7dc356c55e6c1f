-- Each turn passes sixteen bytes, none of them an LF. Assumes nothing.
use Rattle.std.proofs.Common.{◌-◌, length}
use Rattle.text.specs.Lines.{is_end}
use Rattle.text.proofs.Places.{Ahead}
use Rattle.text.proofs.lines.far_end.Given as goal

abbrev pub invariant-loop-from : goal.invariant-loop-from
invariant-loop-from l = Ahead is_end l.block l.from l.at

abbrev pub decreases-loop-from : goal.decreases-loop-from
decreases-loop-from l = length l.block - l.at
