-- A loop that looks through a list, from a place on, for one that passes: none passed before its place, so what is asked of the whole is
-- asked of the rest. Assumes nothing.
use mathlib.Core.Path.{◌≡◌, refl, sym, ap, ◌∙◌}
use mathlib.Core.Bool.{Bool, true, false, cond, false≢true}
use mathlib.Core.List.{List, [], ◌∷◌}
use Prim.Native.Nat.{ℕ, suc, ◌+◌, ◌<◌, ◌≤◌}
use native.Mathlib.Numerals.{add-one}
use lib.ListN.{length, get_or, drop, drop_of_length-le}
use lib.Seq.{drop-cons}
use Rattle.laws.specs.History.{any}

-- a test of a list that asks each element in turn, with those behind it
pub record Asks {A : Type 0} (test : List A → Bool) (here : A → List A → Bool) : Type 0 where
  pub none : test [] ≡ false
  pub more : (x : A) (xs : List A) → test (x ∷ xs) ≡ cond (here x xs) true (test xs)

pub any_asks : {A : Type 0} (p : A → Bool) → Asks (any p) (λ x xs. p x)
any_asks p = record { none = refl; more = λ x xs. refl }

-- none before the place i
pub record Without {A : Type 0} (test : List A → Bool) (xs : List A) (from i : ℕ) : Type 0 where
  pub so_far : test (drop from xs) ≡ test (drop i xs)

pub none_yet : {A : Type 0} {test : List A → Bool} {xs : List A} {from : ℕ} → Without test xs from from
none_yet = record { so_far = refl }

module _ {A : Type 0} (z : A) {test : List A → Bool} {here : A → List A → Bool} (asks : Asks test here) where
  at_place : (xs : List A) (i : ℕ) → i < length xs
      → test (drop i xs) ≡ cond (here (get_or xs i z) (drop (i + 1) xs)) true (test (drop (i + 1) xs))
  at_place xs i h =
      ap test (drop-cons xs i z h)
      ∙ asks.more (get_or xs i z) (drop (suc i) xs)
      ∙ ap (λ (n : ℕ). cond (here (get_or xs i z) (drop n xs)) true (test (drop n xs))) (sym (add-one i))

  -- where t is what is asked at the place
  pub not_here : {xs : List A} {from i : ℕ} {t : Bool} → Without test xs from i → i < length xs → t ≡ here (get_or xs i z) (drop (i + 1) xs)
      → t ≡ false → Without test xs from (i + 1)
  not_here {xs} {from} {i} w h k e =
      record { so_far = w.so_far ∙ at_place xs i h ∙ ap (λ (t : Bool). cond t true (test (drop (i + 1) xs))) (sym k ∙ e) }

  pub found : {xs : List A} {from i : ℕ} {t : Bool} → Without test xs from i → i < length xs → t ≡ here (get_or xs i z) (drop (i + 1) xs)
      → t ≡ true → true ≡ test (drop from xs)
  found {xs} {from} {i} w h k e =
      sym (w.so_far ∙ at_place xs i h ∙ ap (λ (t : Bool). cond t true (test (drop (i + 1) xs))) (sym k ∙ e))

  pub nowhere : {xs : List A} {from i : ℕ} → Without test xs from i → length xs ≤ i → false ≡ test (drop from xs)
  nowhere {xs} {from} {i} w h = sym (w.so_far ∙ ap test (drop_of_length-le xs {i = i} h) ∙ asks.none)

-- ---- of one and of others, none passes

pub none_first : (a b : Bool) → cond a true b ≡ false → a ≡ false
none_first true b e = e
none_first false b e = refl

pub none_after : (a b : Bool) → cond a true b ≡ false → b ≡ false
none_after true b e = absurd (false≢true (sym e))
none_after false b e = e

-- in whichever order they are asked
pub either_way : (a b c : Bool) → cond a true (cond b true c) ≡ cond b true (cond a true c)
either_way true true c = refl
either_way true false c = refl
either_way false true c = refl
either_way false false c = refl
