-- A list whose elements are copied one place to the front, with a new last one, is shifted.
-- Assumes nothing.
use Rattle.std.proofs.Common.{◌≡◌, ◌∙◌, ◌-◌, ◌++◌, ◌+◌, ap₂, refl, List, length, ℕ, suc, set, take, drop, arith}
use Rattle.std.specs.List.{copy_within}
use Rattle.laws.specs.Fold.{shifted}
use Rattle.laws.proofs.Shift.{all_moved}

pub moved : {A : Type 0} (l m : List A) (n : ℕ) (x : A) → length l ≡ suc n → m ≡ copy_within l 1 (length l) 0 → set m n x ≡ shifted l x
moved {A} l m n x h e =
    let k : length l - 1 ≡ n = omega arith in
    let z : 0 + (length l - 1) ≡ n = omega arith in
    let so_far : m ≡ take n (drop 1 l) ++ drop n l = e ∙ ap₂ (λ (i j : ℕ). take i (drop 1 l) ++ drop j l) k z in
    all_moved n x x (record { moved = so_far }) h refl
