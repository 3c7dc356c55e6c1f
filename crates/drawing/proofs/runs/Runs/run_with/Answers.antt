-- One column more, or none. Assumes nothing.
use mathlib.Core.Path.{sym, ap, ◌∙◌}
use Prim.Native.Nat.{ℕ, ◌+◌}
use native.Mathlib.Omega.{arith}
use Rattle.drawing.proofs.Boxes.{run_on, run_off}
use Rattle.drawing.proofs.runs.Runs.run_with.Goals as goal

pub returns-then-is_set : goal.returns-then-is_set
returns-then-is_set c =
    let args = c.args in (
      ap (λ (n : ℕ). n + 1) c.requires.0 ∙ sym
          (run_on args.self.now.of args.self.now.bits.now args.i c.is_set.ensures c.if-is_set.true),
      omega arith,
    )

pub returns : goal.returns
returns c =
    let args = c.args in
    (sym (run_off args.self.now.of args.self.now.bits.now args.i c.is_set.ensures c.if-is_set.false), omega arith)
