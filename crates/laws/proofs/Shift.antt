-- A loop that moves each element one place to the front and then stores a new last one has shifted the list, whatever
-- its length.
-- Assumes nothing.
use mathlib.Core.Path.{◌≡◌, sym, ap, ◌∙◌}
use mathlib.Core.List.{List, [], ◌∷◌, ◌++◌, map}
use Prim.Native.Nat.{ℕ, suc, ◌+◌, ◌<◌, ◌≤◌}
use native.Mathlib.Numerals.{add-one}
use native.Mathlib.Nat.{add_comm}
use native.Mathlib.Omega.{arith}
use lib.ListN.{length, take, drop, get_or, set, length-drop, length-map, drop_of_length-le}
use lib.Seq.{drop-cons, take-suc, set_at, get_or-append-add, get_or-drop, length-take-le, append_snoc, take_all}
use Rattle.laws.specs.Fold.{shifted}

-- what owning an array of structs tells of its list
pub length_from : (A B : Type 0) (f : A → B) (l : List A) (n : ℕ) → length (map f l) ≡ n → length l ≡ n
length_from A B f l n e = sym (length-map l f) ∙ e

module _ {A : Type 0} where
  -- after i turns: the first i have moved, and the others are as they were
  pub record Moved (l₀ : List A) (i : ℕ) (l : List A) : Type 0 where
    pub moved : l ≡ take i (drop 1 l₀) ++ drop i l₀

  length_head : (l : List A) (i : ℕ) → i < length l → length (take i (drop 1 l)) ≡ i
  length_head l i h = length-take-le i (drop 1 l) (simp length-drop (omega arith))

  got : (l : List A) (i : ℕ) (d : A) → i + 1 < length l
      → get_or (take i (drop 1 l) ++ drop i l) (i + 1) d ≡ get_or l (i + 1) d
  got l i d h =
      ap (λ (n : ℕ). get_or (take i (drop 1 l) ++ drop i l) (n + 1) d) (sym (length_head l i (omega arith)))
      ∙ get_or-append-add (take i (drop 1 l)) (drop i l) 1 d
      ∙ get_or-drop i l 1 d

  put : (l : List A) (i : ℕ) (d a : A) → i < length l
      → set (take i (drop 1 l) ++ drop i l) i a ≡ take i (drop 1 l) ++ a ∷ drop (suc i) l
  put l i d a h =
      ap (λ (t : List A). set (take i (drop 1 l) ++ t) i a) (drop-cons l i d h)
      ∙ set_at (take i (drop 1 l)) (get_or l i d) (drop (suc i) l) a i (length_head l i h)

  more : (l : List A) (i : ℕ) (d : A) → i + 1 < length l
      → take (suc i) (drop 1 l) ≡ take i (drop 1 l) ++ (get_or l (i + 1) d ∷ [])
  more l i d h =
      take-suc (drop 1 l) i d (simp length-drop (omega arith))
      ∙ ap (λ (a : A). take i (drop 1 l) ++ (a ∷ [])) (get_or-drop 1 l i d ∙ ap (λ (n : ℕ). get_or l n d) (add_comm 1 i))

  step : (l : List A) (i : ℕ) (d : A) → i + 1 < length l
      → set (take i (drop 1 l) ++ drop i l) i (get_or (take i (drop 1 l) ++ drop i l) (i + 1) d)
      ≡ take (i + 1) (drop 1 l) ++ drop (i + 1) l
  step l i d h =
      ap (λ (a : A). set (take i (drop 1 l) ++ drop i l) i a) (got l i d h)
      ∙ put l i d (get_or l (i + 1) d) (omega arith)
      ∙ sym (append_snoc (take i (drop 1 l)) (get_or l (i + 1) d) (drop (suc i) l))
      ∙ ap (λ (t : List A). t ++ drop (suc i) l) (sym (more l i d h))
      ∙ ap (λ (n : ℕ). take n (drop 1 l) ++ drop n l) (sym (add-one i))

  last : (l : List A) (n : ℕ) (d a : A) → length l ≡ suc n
      → set (take n (drop 1 l) ++ drop n l) n a ≡ drop 1 l ++ (a ∷ [])
  last l n d a e =
      put l n d a (omega arith)
      ∙ ap (λ (t : List A). t ++ a ∷ drop (suc n) l) (take_all n (drop 1 l) (simp length-drop (omega arith)))
      ∙ ap (λ (t : List A). drop 1 l ++ a ∷ t) (none l (suc n) (omega arith))
    where
      none : (l : List A) (k : ℕ) → length l ≤ k → drop k l ≡ []
      none l k h = drop_of_length-le l h

  pub none_moved : {l : List A} → Moved l 0 l
  none_moved = record { moved = mathlib.Core.Path.refl }

  pub one_moved : {l₀ l : List A} {i : ℕ} (d : A) → Moved l₀ i l → i + 1 < length l₀ → Moved l₀ (i + 1) (set l i (get_or l (i + 1) d))
  one_moved {l₀} {l} {i} d m h =
      record { moved = ap (λ (x : List A). set x i (get_or x (i + 1) d)) m.moved ∙ step l₀ i d h }

  pub all_moved : {l₀ l : List A} {i : ℕ} (n : ℕ) (d a : A) → Moved l₀ i l → length l₀ ≡ suc n → i ≡ n → set l n a ≡ shifted l₀ a
  unfolding shifted
  all_moved {l₀} {l} {i} n d a m k h =
      ap (λ (x : List A). set x n a) (m.moved ∙ ap (λ (j : ℕ). take j (drop 1 l₀) ++ drop j l₀) h) ∙ last l₀ n d a k
