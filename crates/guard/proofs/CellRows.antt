-- The rows UV and OV of document 01's table, of all the cells: with settings in their ranges each of the four tests, which go by the
-- lowest and the highest, is true exactly if the paper's sentence holds, for any list of cells. For 10·r316 is below the 65,535, and
-- 10·r315 - 500 above the 0, that the lowest and the highest start from.
-- Assumes nothing.
use mathlib.Core.Path.{◌≡◌, refl}
use mathlib.Core.Bool.{true}
use mathlib.Core.Logic.Iff
use mathlib.Core.Logic.{◌↔◌}
use mathlib.Core.List.{List}
use Prim.Native.Nat.{ℕ, ◌*◌, ◌-◌, ◌<◌, ◌≤◌}
use native.Mathlib.Omega.{arith}
use borrow.Author.Tests.{leb-true, le-leb, ltb-true, lt-ltb}
use lib.Dec.{leb, ltb}
use Rattle.cells.specs.Cells.{extremes_of, SomeCell, EveryCell}
use Rattle.cells.proofs.SomeEvery.{some_at_most, every_above, some_at_least, every_below}
use Rattle.settings.specs.declared.Settings.{Settings}
use Rattle.settings.specs.Settings.{register_of, in_range}
use Rattle.settings.proofs.Drafts.{between}
use Rattle.readings.specs.declared.Readings.{Readings}
use Rattle.guard.specs.Guard.{cells_high_enough, cells_low_enough, holds_of}

-- a cell ≤ 10·r316; all cells > 10·r316; a cell ≥ 10·r315; all < 10·r315 - 500
pub record CellRows (s : Settings) (r : Readings) (cells : List ℕ) : Type 0 where
  pub uv_holds : ((holds_of s r (extremes_of cells)).uv ≡ true) ↔ SomeCell (λ cell. cell ≤ 10 * s.r316) cells
  pub uv_recovers : (cells_high_enough s (extremes_of cells) ≡ true) ↔ EveryCell (λ cell. 10 * s.r316 < cell) cells
  pub ov_holds : ((holds_of s r (extremes_of cells)).ov ≡ true) ↔ SomeCell (λ cell. 10 * s.r315 ≤ cell) cells
  pub ov_recovers : (cells_low_enough s (extremes_of cells) ≡ true) ↔ EveryCell (λ cell. cell < 10 * s.r315 - 500) cells

-- what is needed of the ranges
needed : (s : Settings) → in_range s ≡ true → (s.r316 ≤ 3500) × (1200 ≤ s.r315)
unfolding register_of
needed s h = ((between s h 316 (omega arith) (omega arith) refl).1, (between s h 315 (omega arith) (omega arith) refl).0)

at_most : (a b : ℕ) → (leb a b ≡ true) ↔ (a ≤ b)
at_most a b = (leb-true a b, le-leb a b)

below : (a b : ℕ) → (ltb a b ≡ true) ↔ (a < b)
below a b = (ltb-true a b, lt-ltb a b)

pub cell_rows : (s : Settings) (r : Readings) (cells : List ℕ) → in_range s ≡ true → CellRows s r cells
unfolding holds_of
cell_rows s r cells h =
    let n = needed s h in
    let low : 10 * s.r316 < 65535 = omega arith in
    let high : 0 < 10 * s.r315 - 500 = omega arith in
    record {
      uv_holds = Iff.trans (at_most _ _) (some_at_most (10 * s.r316) cells low);
      uv_recovers = Iff.trans (below _ _) (every_above (10 * s.r316) cells low);
      ov_holds = Iff.trans (at_most _ _) (some_at_least (10 * s.r315) cells (omega arith));
      ov_recovers = Iff.trans (below _ _) (every_below (10 * s.r315 - 500) cells high);
    }
