-- A loop that fills an array from its front with what a function gives leaves a row, and each of its numbers is the function's.
-- Assumes nothing.
use mathlib.Core.Path.{◌≡◌, refl, sym, ap, ◌∙◌}
use mathlib.Core.List.{List, ◌∷◌}
use Prim.Native.Nat.{ℕ, zero, suc, ◌+◌, ◌<◌, ◌≤◌}
use native.Mathlib.Nat.{not-suc-le-zero}
use native.Mathlib.Numerals.{add-one}
use native.Mathlib.Omega.{arith}
use lib.ListN.{length, get_or, set, replicate}
use Rattle.laws.specs.Row.{row}

none : (room : ℕ) (f : ℕ → ℕ) → row room f 0 ≡ replicate room 0
unfolding row
none zero f = refl
none (suc room) f = ap (λ (l : List ℕ). 0 ∷ l) (none room f)

more : (room : ℕ) (f : ℕ → ℕ) (n : ℕ) → n < room → set (row room f n) n (f n) ≡ row room f (suc n)
unfolding row
more zero f n h = absurd (not-suc-le-zero h)
more (suc room) f zero h = ap (λ (l : List ℕ). f 0 ∷ l) (none room f ∙ sym (none room (λ i. f (suc i))))
more (suc room) f (suc n) h = ap (λ (l : List ℕ). f 0 ∷ l) (more room (λ i. f (suc i)) n (omega arith))

-- each number of a row
pub row_at : (room : ℕ) (f : ℕ → ℕ) (n i : ℕ) → i < n → n ≤ room → get_or (row room f n) i 0 ≡ f i
unfolding row
row_at zero f n i h m = absurd (omega arith)
row_at (suc room) f zero i h m = absurd (omega arith)
row_at (suc room) f (suc n) zero h m = refl
row_at (suc room) f (suc n) (suc i) h m = row_at room (λ i. f (suc i)) n i (omega arith) (omega arith)

pub row_length : (room : ℕ) (f : ℕ → ℕ) (n : ℕ) → length (row room f n) ≡ room
unfolding row
row_length zero f n = refl
row_length (suc room) f zero = ap suc (row_length room f zero)
row_length (suc room) f (suc n) = ap suc (row_length room (λ i. f (suc i)) n)

-- rows of functions that agree on their numbers
pub row_alike : (room : ℕ) (f g : ℕ → ℕ) (n : ℕ) → ((i : ℕ) → i < n → f i ≡ g i) → row room f n ≡ row room g n
unfolding row
row_alike zero f g n e = refl
row_alike (suc room) f g zero e = ap (λ (l : List ℕ). 0 ∷ l) (row_alike room f g zero e)
row_alike (suc room) f g (suc n) e =
    ap (λ (x : ℕ). x ∷ row room (λ i. f (suc i)) n) (e 0 (omega arith))
    ∙ ap (λ (l : List ℕ). g 0 ∷ l) (row_alike room (λ i. f (suc i)) (λ i. g (suc i)) n (λ i h. e (suc i) (omega arith)))

-- ---- the loop

pub record Filling (room : ℕ) (f : ℕ → ℕ) (n i : ℕ) (l : List ℕ) : Type 0 where
  pub within : i ≤ n
  pub fills : l ≡ row room f i

pub begun : {room : ℕ} {f : ℕ → ℕ} {n : ℕ} → Filling room f n 0 (replicate room 0)
begun {room} {f} = record { within = omega arith; fills = sym (none room f) }

pub next : {room : ℕ} {f : ℕ → ℕ} {n i v : ℕ} {l : List ℕ} → Filling room f n i l → i < n → n ≤ room → v ≡ f i
    → Filling room f n (i + 1) (set l i v)
next {room} {f} {n} {i} {v} {l} c h m e =
    record {
      within = omega arith;
      fills =
          ap (λ (l : List ℕ). set l i v) c.fills ∙ ap (λ (x : ℕ). set (row room f i) i x) e ∙ more room f i (omega arith)
          ∙ ap (row room f) (sym (add-one i));
    }

pub done : {room : ℕ} {f : ℕ → ℕ} {n i : ℕ} {l : List ℕ} → Filling room f n i l → n ≤ i → l ≡ row room f n
done {room} {f} {n} {i} c h = let e : i ≡ n = omega (arith, c.within) in c.fills ∙ ap (row room f) e
