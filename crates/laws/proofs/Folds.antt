-- A loop that gathers from the left: what it has after i turns leads, with what is left, to the whole fold.
-- Assumes nothing.
use mathlib.Core.Path.{◌≡◌, refl, sym, ap, ◌∙◌}
use mathlib.Core.List.{List}
use Prim.Native.Nat.{ℕ, ◌+◌, ◌<◌, ◌≤◌, min}
use native.Mathlib.Numerals.{add-one}
use native.Mathlib.Omega.{arith}
use lib.ListN.{length, drop, get_or, drop_of_length-le, length-take, take}
use lib.Seq.{drop-cons, get_or-take}
use Rattle.laws.specs.Fold.{gather}

-- i elements of xs are gathered into a, from z on
pub record Gathered (f : ℕ → ℕ → ℕ) (z a : ℕ) (xs : List ℕ) (i : ℕ) : Type 0 where
  pub within : i ≤ length xs
  pub rest : gather f a (drop i xs) ≡ gather f z xs

pub begun : {f : ℕ → ℕ → ℕ} {z : ℕ} {xs : List ℕ} → Gathered f z z xs 0
begun = record { within = omega arith; rest = refl }

pub next : {f : ℕ → ℕ → ℕ} {z a b : ℕ} {xs : List ℕ} {i : ℕ} → Gathered f z a xs i → i < length xs → b ≡ f a (get_or xs i 0)
    → Gathered f z b xs (i + 1)
next {xs = xs} {i = i} g h q = record { within = omega arith; rest = rw (add-one, q) (rw (drop-cons xs i 0) at g.rest) }

pub done : {f : ℕ → ℕ → ℕ} {z a : ℕ} {xs : List ℕ} {i : ℕ} → Gathered f z a xs i → length xs ≤ i → a ≡ gather f z xs
done g h = rw drop_of_length-le at g.rest

-- the same over the first n elements
pub record GatheredOf (f : ℕ → ℕ → ℕ) (z a n : ℕ) (xs : List ℕ) (i : ℕ) : Type 0 where
  pub so_far : Gathered f z a (take n xs) i

pub begun_of : {f : ℕ → ℕ → ℕ} {z n : ℕ} {xs : List ℕ} → GatheredOf f z z n xs 0
begun_of = record { so_far = begun }

pub next_of : {f : ℕ → ℕ → ℕ} {z a b n : ℕ} {xs : List ℕ} {i : ℕ} → GatheredOf f z a n xs i → i < min n (length xs) → b ≡ f a (get_or xs i 0)
    → GatheredOf f z b n xs (i + 1)
next_of {f} {z} {a} {b} {n} {xs} {i} g h q =
    record { so_far = next g.so_far (rw length-take h) (q ∙ ap (f a) (sym (get_or-take n xs i 0 (omega arith)))) }

pub done_of : {f : ℕ → ℕ → ℕ} {z a n : ℕ} {xs : List ℕ} {i : ℕ} → GatheredOf f z a n xs i → min n (length xs) ≤ i
    → a ≡ gather f z (take n xs)
done_of g h = done g.so_far (rw length-take h)
