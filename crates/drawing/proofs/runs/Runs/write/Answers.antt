-- Each turn writes the run that ends with one column more. Assumes nothing.
use mathlib.Core.Path.{ap}
use Prim.Native.Nat.{ℕ}
use native.Mathlib.Omega.{arith}
use lib.ListN.{length}
use Rattle.text.proofs.Writing.{none}
use Rattle.drawing.proofs.InTurn.{turn_room, turn_more, turn_all}
use Rattle.drawing.proofs.Boxes.{run_at_wrote}
use Rattle.drawing.specs.Paths.{run_text, run_at, runs_text}
use borrow.Author.Rules.{rules}
use Rattle.drawing.proofs.runs.Runs.write.Goals as goal

pub loop-i-init : goal.loop-i-init
loop-i-init c = (search rules, search rules, search rules, search rules, none)

pub run_with-run-requires : goal.run_with-run-requires
run_with-run-requires c = (c.loop-i.invariant.1, search rules, search rules)

pub ended-requires : goal.ended-requires
ended-requires c = (c.run_with-run.ensures.0, search rules)

pub write_run-next-requires : goal.write_run-next-requires
unfolding runs_text
write_run-next-requires c =
    let args = c.args in
    let loop = c.loop-i in
    let long = ap (λ (n : ℕ). length (run_text args.self.now.height loop.i n)) c.ended.ensures.0 in
    let room = turn_room (run_at args.self.now.of args.self.now.bits.now args.self.now.height) (length args.self.now.bits.now) loop.i
    c.loop-i-test.true in
    (omega arith, omega arith, omega (arith, long, room, loop.invariant.4.place, c.requires))

pub loop-i-preserved : goal.loop-i-preserved
loop-i-preserved c =
    let args = c.args in
    let loop = c.loop-i in (
      search rules,
      c.run_with-run.ensures.0,
      c.run_with-run.ensures.1,
      search rules,
      turn_more (run_at args.self.now.of args.self.now.bits.now args.self.now.height) loop.i loop.invariant.4
          (run_at_wrote args.self.now.of args.self.now.bits.now args.self.now.height loop.i c.write_run-next.ensures c.ended.ensures.0),
    )

pub returns : goal.returns
unfolding runs_text
returns c =
    let args = c.args in
    let loop = c.loop-i in
    turn_all (run_at args.self.now.of args.self.now.bits.now args.self.now.height) (length args.self.now.bits.now) loop.i loop.invariant.0
    c.loop-i-test.false loop.invariant.4
