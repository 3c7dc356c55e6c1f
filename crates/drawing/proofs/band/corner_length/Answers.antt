-- Two letters and the digits of two numbers. Assumes nothing.
use native.Mathlib.Omega.{arith}
use Rattle.drawing.proofs.Outline.{corner_long}
use Rattle.drawing.proofs.band.corner_length.Goals as goal

pub returns : goal.returns
returns c = omega (arith, corner_long c.args.edge c.args.height)
