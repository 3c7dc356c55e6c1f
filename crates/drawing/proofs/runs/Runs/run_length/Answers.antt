-- Eight letters and signs, and the digits of four numbers. Assumes nothing.
use native.Mathlib.Omega.{arith}
use Rattle.drawing.proofs.Boxes.{no_run_long, run_long}
use Rattle.drawing.proofs.runs.Runs.run_length.Goals as goal

pub returns-then-run-eq0 : goal.returns-then-run-eq0
returns-then-run-eq0 c = no_run_long c.args.self.now.height c.args.i c.args.run c.if-run-eq0.true

pub returns : goal.returns
returns c =
    let args = c.args in
    omega (arith, run_long args.self.now.height args.i args.run c.if-run-eq0.false)
