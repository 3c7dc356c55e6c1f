-- A tick's record is a part of the records, as far as they go; and what is told of a record, with the lowest and highest of its cells, is
-- told of its moment. Assumes nothing.
use mathlib.Core.Path.{◌≡◌, sym, ap, ap₂, ◌∙◌}
use mathlib.Core.List.{List}
use Prim.Native.Nat.{ℕ, ◌-◌, min}
use native.Mathlib.Omega.{arith, min_cases}
use Rattle.std.proofs.Math.Seq.{take-length}
use lib.ListN.{length, take, drop, length-drop, drop_of_length-le}
use Rattle.laws.proofs.Lists.{take_min}

module _ {A : Type 0} where
  pub drop_min : (n : ℕ) (xs : List A) → drop (min n (length xs)) xs ≡ drop n xs
  drop_min n xs =
      min_cases n (length xs) _ (λ h e. ap (λ k. drop k xs) e) (λ h e. ap (λ k. drop k xs) e ∙ drop_of_length-le xs {i = length xs}
      (omega arith) ∙ sym (drop_of_length-le xs {i = n} h))

  -- from n on, and of the given size, as far as the list goes
  pub part : (n size : ℕ) (xs : List A) {from given : ℕ} → from ≡ min n (length xs)
      → given ≡ min (length (take (length xs - from) (drop from xs))) size
      → take given (take (length xs - from) (drop from xs)) ≡ take size (drop n xs)
  part n size xs {from} {given} e f =
      let rest : take (length xs - from) (drop from xs) ≡ drop from xs =
      ap (λ k. take k (drop from xs)) (sym (length-drop from xs)) ∙ take-length (drop from xs) in
      let same : drop from xs ≡ drop n xs = ap (λ k. drop k xs) e ∙ drop_min n xs in
      let g : given ≡ min size (length (drop n xs)) = f ∙ ap (λ l. min (length l) size) (rest ∙ same) ∙ omega arith in
      ap₂ take g (rest ∙ same) ∙ take_min size (drop n xs)
