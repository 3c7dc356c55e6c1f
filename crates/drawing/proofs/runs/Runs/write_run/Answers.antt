-- The parts of the box, one after the other. Assumes nothing.
use native.Mathlib.Omega.{arith}
use Rattle.drawing.proofs.Boxes.{run_long, no_run_wrote, run_room, run_wrote}
use Rattle.drawing.proofs.runs.Runs.write_run.Goals as goal

pub returns-then-run-eq0 : goal.returns-then-run-eq0
returns-then-run-eq0 c = no_run_wrote c.args.self.now.height c.args.i c.args.run c.if-run-eq0.true

pub write_part-from-requires : goal.write_part-from-requires
write_part-from-requires c = omega (arith, run_long c.args.self.now.height c.args.i c.args.run c.if-run-eq0.false, c.requires.2)

pub write_part-back-requires : goal.write_part-back-requires
write_part-back-requires c =
    run_room c.args.self.now.height c.args.i c.args.run c.write_part-from.ensures
    c.put_text-wide.ensures c.put_decimal-high.ensures
    c.if-run-eq0.false c.requires.2

pub returns : goal.returns
returns c =
    run_wrote c.args.self.now.height c.args.i c.args.run c.write_part-from.ensures
    c.put_text-wide.ensures c.put_decimal-high.ensures
    c.write_part-back.ensures c.put_text-minus.ensures c.put_decimal-end.ensures c.put.ensures
    c.if-run-eq0.false c.requires.2
