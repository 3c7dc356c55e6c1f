-- The minus, where it is told. Assumes nothing.
use mathlib.Core.List.{[], ◌∷◌}
use native.Mathlib.Omega.{arith}
use Rattle.text.proofs.Writing.{none, put_wrote}
use Rattle.figures.proofs.Texts.{first, other}
use borrow.Author.Rules.{rules}
use Rattle.figures.proofs.write_minus.Goals as goal

pub returns-then-is_told : goal.returns-then-is_told
returns-then-is_told c =
    let minus = put_wrote c.put.ensures c.requires in
    record { wrote = first _ [] minus c.if-is_told.true; upper_bound = omega (arith, minus.place) }

pub returns : goal.returns
returns c = record { wrote = other _ (45 ∷ []) none c.if-is_told.false; upper_bound = search rules }
