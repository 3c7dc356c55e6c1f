-- Each turn takes one column more. Assumes nothing.
use mathlib.Core.Path.{ap, ◌∙◌}
use Prim.Native.Nat.{ℕ}
use native.Mathlib.Omega.{arith}
use lib.ListN.{length}
use Rattle.drawing.proofs.InTurn.{turn_left, turn_all_left}
use Rattle.drawing.specs.Paths.{run_text, run_at, runs_text}
use borrow.Author.Rules.{rules}
use Rattle.drawing.proofs.runs.Runs.left.Goals as goal

pub run_with-run-requires : goal.run_with-run-requires
run_with-run-requires c = (c.loop-i.invariant.1, search rules, search rules)

pub ended-requires : goal.ended-requires
ended-requires c = (c.run_with-run.ensures.0, search rules)

pub run_length-requires : goal.run_length-requires
run_length-requires c = (omega arith, omega arith)

pub loop-i-preserved : goal.loop-i-preserved
loop-i-preserved c =
    let args = c.args in
    let loop = c.loop-i in
    let long = c.run_length.ensures ∙ ap (λ (n : ℕ). length (run_text args.self.now.height loop.i n))
    c.ended.ensures.0 in (
      search rules,
      c.run_with-run.ensures.0,
      c.run_with-run.ensures.1,
      c.saturating_sub-left.ensures ∙ turn_left (run_at args.self.now.of args.self.now.bits.now args.self.now.height) args.room loop.i loop.invariant.3 long,
    )

pub returns : goal.returns
unfolding runs_text
returns c =
    let args = c.args in
    let loop = c.loop-i in
    turn_all_left (run_at args.self.now.of args.self.now.bits.now args.self.now.height) args.room (length args.self.now.bits.now) loop.i
    loop.invariant.0 c.loop-i-test.false loop.invariant.3
