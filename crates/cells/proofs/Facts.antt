-- P13 of document 01 at the level of one pack's cells, and the rounding of W-206, computed.
-- Assumes nothing.
use mathlib.Core.Path.{◌≡◌, refl}
use mathlib.Core.List.{[], ◌∷◌, map}
use Rattle.laws.specs.Fold.{packed}
use Rattle.cells.specs.Cells.{decision_of, millivolts_of}

-- P13: factory (4000 mV, 15 mV), lowest 40,000: 40,150 no, 40,151 balances
pub P13 : (decision_of 4000 15 (40000 ∷ 40150 ∷ 40001 ∷ 40002 ∷ []) ≡ 0) × (decision_of 4000 15 (40000 ∷ 40151 ∷ 40001 ∷ 40002 ∷ []) ≡ 2)
unfolding packed
P13 = (refl, refl)

-- 4, 5 and 6 tenths past a millivolt; the ends
pub rounded : map millivolts_of (37664 ∷ 37665 ∷ 37666 ∷ 65535 ∷ 65534 ∷ 4 ∷ 0 ∷ []) ≡ 3766 ∷ 3767 ∷ 3767 ∷ 6554 ∷ 6553 ∷ 0 ∷ 0 ∷ []
rounded = refl
