-- Document 01 on the cells, written again from the paper: the lowest and the highest, the balancing decision of each, and register 51.
-- The definitions that the code meets are these rules, for all cells and settings: so none of them rounds (W-206). They gather from the
-- left what is said here from the right.
-- Assumes nothing.
use mathlib.Core.Path.{◌≡◌, refl, ap, ◌∙◌}
use mathlib.Core.Bool.{Bool, true, false, ◌&&◌, cond}
use mathlib.Core.List.{List, [], ◌∷◌}
use Prim.Native.Nat.{ℕ, ◌+◌, ◌*◌, ◌-◌, ◌≤◌, min, max}
use native.Mathlib.Omega.{arith}
use lib.Dec.{ltb}
use lib.ListN.{take}
use Rattle.laws.specs.Fold.{gather, bit_of, packed}
use Rattle.cells.specs.declared.Extremes.{Extremes}
use Rattle.cells.specs.Cells.{lowest_of, highest_of, extremes_of, decides, decision_of}

-- lowest and highest cell, in 0.1 mV; of none, the highest number that sixteen bits hold, and 0
abbrev pub lowest : List ℕ → ℕ
lowest [] = 65535
lowest (cell ∷ cells) = min cell (lowest cells)

abbrev pub highest : List ℕ → ℕ
highest [] = 0
highest (cell ∷ cells) = max cell (highest cells)

-- balancing decision: cell > 10·r303 and cell - lowest > 10·r308
abbrev pub balances : ℕ → ℕ → ℕ → ℕ → Bool
balances r303 r308 low cell = ltb (10 * r303) cell && ltb (10 * r308) (cell - low)

-- cell 1 the lowest bit
abbrev pub bits : (ℕ → Bool) → List ℕ → ℕ
bits decided [] = 0
bits decided (cell ∷ cells) = cond (decided cell) 1 0 + 2 * bits decided cells

-- register 51; a board has at most 16 cells
abbrev pub register51 : ℕ → ℕ → List ℕ → ℕ
register51 r303 r308 cells = bits (balances r303 r308 (lowest cells)) (take 16 cells)

least : (a : ℕ) (cells : List ℕ) → a ≤ 65535 → gather min a cells ≡ min a (lowest cells)
least a [] h = omega arith
least a (cell ∷ cells) h = least (min a cell) cells (omega arith) ∙ omega arith

most : (a : ℕ) (cells : List ℕ) → gather max a cells ≡ max a (highest cells)
most a [] = omega arith
most a (cell ∷ cells) = most (max a cell) cells ∙ omega arith

held : (cells : List ℕ) → lowest cells ≤ 65535
held [] = omega arith
held (cell ∷ cells) = omega (arith, held cells)

pub extremes : (cells : List ℕ) → extremes_of cells ≡ record { lowest = lowest cells; highest = highest cells }
extremes cells =
    let low : lowest_of cells ≡ lowest cells = least 65535 cells (omega arith) ∙ omega (arith, held cells) in
    let high : highest_of cells ≡ highest cells = most 0 cells ∙ omega arith in
    λ i. record { lowest = low i; highest = high i }

as_bit : (t : Bool) → bit_of t ≡ cond t 1 0
as_bit true = refl
as_bit false = refl

as_bits : (decided : ℕ → Bool) (cells : List ℕ) → packed decided cells ≡ bits decided cells
unfolding packed
as_bits decided [] = refl
as_bits decided (cell ∷ cells) = omega (arith, as_bit (decided cell), as_bits decided cells)

pub decision : (r303 r308 low cell : ℕ) → decides r303 r308 low cell ≡ balances r303 r308 low cell
decision r303 r308 low cell = refl

pub decisions : (r303 r308 : ℕ) (cells : List ℕ) → decision_of r303 r308 cells ≡ register51 r303 r308 cells
decisions r303 r308 cells =
    as_bits (decides r303 r308 (lowest_of cells)) (take 16 cells)
    ∙ ap (λ (e : Extremes). bits (balances r303 r308 e.lowest) (take 16 cells)) (extremes cells)
