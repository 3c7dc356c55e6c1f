-- The cells as they are kept have the sum of the cells: the zeros after them add nothing.
-- Assumes nothing.
use mathlib.Core.Path.{◌≡◌, refl, ap, ◌∙◌}
use mathlib.Core.List.{List, [], ◌∷◌, ◌++◌}
use Prim.Native.Nat.{ℕ, zero, suc, ◌+◌, ◌-◌, ◌≤◌}
use native.Mathlib.Nat.{add-zero}
use native.Mathlib.Omega.{arith}
use lib.ListN.{length, take, replicate, length-append, length-take, length-replicate}
use lib.Seq.{take_all}
use Rattle.laws.specs.Fold.{gather}
use Rattle.cells.specs.Cells.{kept_of, sum_of}

sum_append : (a : ℕ) (xs ys : List ℕ) → gather ◌+◌ a (xs ++ ys) ≡ gather ◌+◌ (gather ◌+◌ a xs) ys
sum_append a [] ys = refl
sum_append a (x ∷ xs) ys = sum_append (a + x) xs ys

zeros_add : (a n : ℕ) → gather ◌+◌ a (replicate n 0) ≡ a
zeros_add a zero = refl
zeros_add a (suc n) = zeros_add (a + 0) n ∙ add-zero a

pub sum_kept : (cells : List ℕ) → sum_of (kept_of cells) ≡ sum_of cells
sum_kept cells =
    let l = length-append (take 16 cells) (replicate (16 - length cells) 0) in
    let t = length-take 16 cells in
    let r = length-replicate {A = ℕ} (16 - length cells) 0 in
    let whole : length (kept_of cells) ≤ 16 = omega (arith, l, t, r) in
    ap (gather ◌+◌ 0) (take_all 16 (kept_of cells) whole)
    ∙ sum_append 0 (take 16 cells) (replicate (16 - length cells) 0)
    ∙ zeros_add (sum_of cells) (16 - length cells)
