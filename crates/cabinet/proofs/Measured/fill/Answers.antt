-- Each turn fills one place more, up to the twentieth. Assumes nothing.
use mathlib.Core.Path.{refl, ap, sym}
use Prim.Native.Nat.{ℕ}
use native.Mathlib.Omega.{arith}
use borrow.Author.Tests.{ne_eqb}
use borrow.Author.Rules.{rules}
use Rattle.refusals.specs.Refusals.{first}
use Rattle.cabinet.specs.Cabinet.{cabinet_rows}
use Rattle.cabinet.proofs.Laws.{none_filled, one_filled, all_filled}
use Rattle.cabinet.proofs.Measured.fill.Goals as goal

pub returns-then-slice-ne20 : goal.returns-then-slice-ne20
unfolding first
returns-then-slice-ne20 c = record { outcome_is = rw (ne_eqb _ _ c.if-slice-ne20.true); slice = refl }

pub loop-i-init : goal.loop-i-init
loop-i-init c = (c.if-slice-ne20.false, none_filled)

pub loop-i-preserved : goal.loop-i-preserved
loop-i-preserved c =
    let (twenty, so_far) = c.loop-i.invariant in
    (twenty, one_filled so_far (omega arith) c.register.ensures)

pub returns : goal.returns
unfolding first
returns c =
    let (twenty, so_far) = c.loop-i.invariant in
    record {
      outcome_is = ap (λ (n : ℕ). first (cabinet_rows n)) (sym twenty);
      slice = all_filled so_far (search rules) twenty;
    }
