-- The digits and an end. Assumes nothing.
use native.Mathlib.Omega.{arith}
use Rattle.totallines.proofs.Line.{line_long}
use Rattle.totallines.proofs.line_length.Goals as goal

pub returns : goal.returns
returns c = let long = line_long c.args.value in (omega arith, omega arith)
