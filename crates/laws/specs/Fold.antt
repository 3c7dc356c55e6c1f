-- Folds over a list of numbers, and a list shifted by one place.
-- Assumes nothing.
use Rattle.std.specs.Prelude.{Bool, true, false, List, [], ◌∷◌, ◌++◌, ℕ, ◌+◌, ◌*◌, drop}

-- each element in turn, from the left, put to what is gathered so far
abbrev pub gather : (ℕ → ℕ → ℕ) → ℕ → List ℕ → ℕ
gather f a [] = a
gather f a (x ∷ xs) = gather f (f a x) xs

-- 1 for yes, 0 for no
abbrev pub bit_of : Bool → ℕ
bit_of true = 1
bit_of false = 0

-- a number whose lowest bit is the test of the first element, the next bit that of the second, and so on
unfoldable pub packed : (ℕ → Bool) → List ℕ → ℕ
packed f [] = 0
packed f (x ∷ xs) = 2 * packed f xs + bit_of (f x)

-- the first element is dropped, all others move one place to the front, and the new one is last
unfoldable pub shifted : {A : Type 0} → List A → A → List A
shifted xs x = drop 1 xs ++ (x ∷ [])
