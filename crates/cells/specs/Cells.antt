-- What is read off the cells, given in 0.1 mV; cell 1 is the first.
-- Assumes nothing.
use Rattle.std.specs.Prelude.{Bool, ◌&&◌, ℕ, ◌+◌, ◌*◌, ◌-◌, ◌/◌, min, max, ltb, length, take, replicate}
use mathlib.Core.List.{List, ◌++◌, Memᴰ}
use Rattle.laws.specs.Fold.{gather, packed}
use Rattle.cells.specs.declared.Extremes.{Extremes}

-- the cells as they are kept: registers 0 to 15, those past the cell count 0
abbrev pub kept_of : List ℕ → List ℕ
kept_of cells = take 16 cells ++ replicate (16 - length cells) 0

-- lowest and highest cell
abbrev pub lowest_of : List ℕ → ℕ
lowest_of cells = gather min 65535 cells

abbrev pub highest_of : List ℕ → ℕ
highest_of cells = gather max 0 cells

abbrev pub extremes_of : List ℕ → Extremes
extremes_of cells = record { lowest = lowest_of cells; highest = highest_of cells }

-- a cell of the list that ..; every cell of the list ..
abbrev pub SomeCell : (ℕ → Type 0) → List ℕ → Type 0
SomeCell Is cells = (cell : ℕ) × Memᴰ cell cells × Is cell

abbrev pub EveryCell : (ℕ → Type 0) → List ℕ → Type 0
EveryCell Is cells = (cell : ℕ) → Memᴰ cell cells → Is cell

-- the exact sum in 0.1 mV; a board has at most 16 cells
abbrev pub sum_of : List ℕ → ℕ
sum_of cells = gather ◌+◌ 0 (take 16 cells)

-- balancing decision: cell > 10·r303 and cell - lowest > 10·r308
abbrev pub decides : ℕ → ℕ → ℕ → ℕ → Bool
decides r303 r308 lowest cell = ltb (10 * r303) cell && ltb (10 * r308) (cell - lowest)

-- register 51, cell 1 the lowest bit; a board has at most 16 cells
abbrev pub decision_of : ℕ → ℕ → List ℕ → ℕ
decision_of r303 r308 cells = packed (decides r303 r308 (lowest_of cells)) (take 16 cells)

-- a cell in mV, to the nearest, a half going up (W-206)
abbrev pub millivolts_of : ℕ → ℕ
millivolts_of cell = (cell + 5) / 10
