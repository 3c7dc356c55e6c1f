-- Some cell is at most k, and every cell above k, exactly if the lowest is; some cell is at least k, and every cell below k, exactly if
-- the highest is. For the lowest is one of 65,535 and the cells, and none of these is below it; the highest is one of 0 and the cells,
-- and none is above it. So k is below 65,535, or above 0; of the cells nothing is asked, neither how many nor how large.
-- Assumes nothing.
use mathlib.Core.Path.{◌≡◌, refl, sym, ◌∙◌, subst}
use mathlib.Core.Logic.{◌↔◌, ◌⊎◌, inl, inr}
use mathlib.Core.List.Memᴰ
use mathlib.Core.List.{List, [], ◌∷◌, Memᴰ}
use Prim.Native.Nat.{ℕ, ◌<◌, ◌≤◌}
use native.Mathlib.Omega.{arith, min_cases, max_cases}
use Rattle.laws.specs.Fold.{gather}
use Rattle.cells.specs.Cells.{lowest_of, highest_of, SomeCell, EveryCell}

-- x is the foremost of a start and a list: it is one of them, and comes before each
record Foremost (Before : ℕ → ℕ → Type 0) (start x : ℕ) (xs : List ℕ) : Type 0 where
  one : (x ≡ start) ⊎ Memᴰ x xs
  first : Before x start
  each : EveryCell (Before x) xs

-- f picks one of two, and what comes before it comes before both
record Picks (f : ℕ → ℕ → ℕ) (Before : ℕ → ℕ → Type 0) : Type 0 where
  one : (a b : ℕ) → (f a b ≡ a) ⊎ (f a b ≡ b)
  both : (x a b : ℕ) → Before x (f a b) → Before x a × Before x b
  same : (a : ℕ) → Before a a

-- so what it gathers is the foremost
module _ {f : ℕ → ℕ → ℕ} {Before : ℕ → ℕ → Type 0} (p : Picks f Before) where
  foremost : (start : ℕ) (xs : List ℕ) → Foremost Before start (gather f start xs) xs
  foremost a [] = record { one = inl refl; first = p.same a; each = λ c m. absurd (Memᴰ.not-nil m) }
  foremost a (b ∷ xs) =
      let i = foremost (f a b) xs in
      let before = p.both _ a b i.first in
      record { one = found i.one; first = before.0; each = λ c m. beside before.1 (i.each c) (Memᴰ.cases_cons m) }
    where
      picked : {x : ℕ} → x ≡ f a b → (f a b ≡ a) ⊎ (f a b ≡ b) → (x ≡ a) ⊎ Memᴰ x (b ∷ xs)
      picked q (inl h) = inl (q ∙ h)
      picked q (inr h) = inr (Memᴰ.head (q ∙ h))

      found : {x : ℕ} → (x ≡ f a b) ⊎ Memᴰ x xs → (x ≡ a) ⊎ Memᴰ x (b ∷ xs)
      found (inl q) = picked q (p.one a b)
      found (inr m) = inr (Memᴰ.tail m)

      beside : {x c : ℕ} → Before x b → (Memᴰ c xs → Before x c) → (c ≡ b) ⊎ Memᴰ c xs → Before x c
      beside {x} h i (inl q) = subst (Before x) (sym q) h
      beside h i (inr m) = i m

-- a property of the foremost is one of some, or of every, element
module _ {Before : ℕ → ℕ → Type 0} {start x : ℕ} {xs : List ℕ} (e : Foremost Before start x xs) (Is : ℕ → Type 0) where
  some_is : (Is start → ⊥) → ((a b : ℕ) → Before a b → Is b → Is a) → Is x ↔ SomeCell Is xs
  some_is not_start earlier = (go e.one, λ s. earlier x s.0 (e.each s.0 s.1) s.2)
    where
      go : (x ≡ start) ⊎ Memᴰ x xs → Is x → SomeCell Is xs
      go (inl q) h = absurd (not_start (subst Is q h))
      go (inr m) h = (x, m, h)

  every_is : Is start → ((a b : ℕ) → Before a b → Is a → Is b) → Is x ↔ EveryCell Is xs
  every_is at-start later = (λ h c m. later x c (e.each c m) h, go e.one)
    where
      go : (x ≡ start) ⊎ Memᴰ x xs → EveryCell Is xs → Is x
      go (inl q) h = subst Is (sym q) at-start
      go (inr m) h = h x m

lowest : (cells : List ℕ) → Foremost ◌≤◌ 65535 (lowest_of cells) cells
lowest =
    foremost (record {
      one = λ a b. min_cases a b _ (λ h e. inl e) (λ h e. inr e);
      both = λ x a b h. (omega arith, omega arith);
      same = λ a.
          omega arith;
    }) 65535

highest : (cells : List ℕ) → Foremost (λ a b. b ≤ a) 0 (highest_of cells) cells
highest =
    foremost (record {
      one = λ a b. max_cases a b _ (λ h e. inr e) (λ h e. inl e);
      both = λ x a b h. (omega arith, omega arith);
      same = λ a.
          omega arith;
    }) 0

module _ (k : ℕ) (cells : List ℕ) where
  pub some_at_most : k < 65535 → (lowest_of cells ≤ k) ↔ SomeCell (λ cell. cell ≤ k) cells
  some_at_most h = some_is (lowest cells) (λ cell. cell ≤ k) (λ p. omega arith) (λ a b p q. omega arith)

  pub every_above : k < 65535 → (k < lowest_of cells) ↔ EveryCell (λ cell. k < cell) cells
  every_above h = every_is (lowest cells) (λ cell. k < cell) h (λ a b p q. omega arith)

  pub some_at_least : 0 < k → (k ≤ highest_of cells) ↔ SomeCell (λ cell. k ≤ cell) cells
  some_at_least h = some_is (highest cells) (λ cell. k ≤ cell) (λ p. omega arith) (λ a b p q. omega arith)

  pub every_below : 0 < k → (highest_of cells < k) ↔ EveryCell (λ cell. cell < k) cells
  every_below h = every_is (highest cells) (λ cell. cell < k) h (λ a b p q. omega arith)
