-- The digits of the number, with their commas. Assumes nothing.
use mathlib.Core.Path.{refl, sym, ap}
use mathlib.Core.List.{List}
use Prim.Native.Nat.{ℕ}
use native.Mathlib.Omega.{arith}
use lib.ListN.{length}
use lib.Seq.{length-take-le}
use Rattle.figures.specs.Figures.{grouped_text}
use Rattle.figures.proofs.Texts.{digits_taken, count_long, count_wrote}
use borrow.Author.Rules.{rules}
use Rattle.figures.proofs.write_count.Goals as goal

pub slice_bounds-digits-end : goal.slice_bounds-digits-end
slice_bounds-digits-end c =
    let digits = digits_taken c.args.number c.put_decimal-count.ensures (search rules) refl in
    omega (arith, digits.1)

pub slice_bounds-write_grouped-end : goal.slice_bounds-write_grouped-end
slice_bounds-write_grouped-end c =
    let digits = digits_taken c.args.number c.put_decimal-count.ensures (search rules) refl in
    sym (length-take-le _ _ (omega (arith, digits.1)))

pub write_grouped-requires : goal.write_grouped-requires
write_grouped-requires c =
    let digits = digits_taken c.args.number c.put_decimal-count.ensures (search rules) refl in
    let long = count_long c.args.number (search rules) in
    omega (arith, long, ap (λ (ds : List ℕ). length (grouped_text ds)) digits.0)

pub returns : goal.returns
returns c =
    let digits = digits_taken c.args.number c.put_decimal-count.ensures (search rules) refl in
    let all = count_wrote c.args.number c.write_grouped.ensures digits.0 (search rules) in record { wrote = all.0; upper_bound = all.1 }
