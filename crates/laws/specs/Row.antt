-- A row of numbers in an array: the first n that a function gives, and zeros after them, as many as there is room for.
-- Assumes nothing.
use Rattle.std.specs.Prelude.{List, [], ◌∷◌, ℕ, zero, suc}

unfoldable pub row : ℕ → (ℕ → ℕ) → ℕ → List ℕ
row zero f n = []
row (suc room) f zero = 0 ∷ row room f zero
row (suc room) f (suc n) = f 0 ∷ row room (λ i. f (suc i)) n
