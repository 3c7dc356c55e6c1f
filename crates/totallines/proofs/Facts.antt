-- The lines of twelve records, of a cut bill and of a total past 64 bits: computed. 48 is 0, 10 the end of a line.
-- Assumes nothing.
use mathlib.Core.Path.{◌≡◌, refl}
use mathlib.Core.List.{[], ◌∷◌}
use Rattle.refusals.specs.declared.Refusal.TheVariants.{CutBill, PastTotal}
use Rattle.refusals.specs.Refusals.{Outcome, Done, Refused}
use Rattle.text.specs.Digits.{digits_within, decimal_text}
use Rattle.totals.specs.declared.Billed.{Billed}
use Rattle.totallines.specs.TotalLines.{lines_of}

-- twelve records
billed : Outcome → Billed
billed outcome = record { outcome = outcome; totals = record { count = 12; seconds = 3; positive = 45; negative = 0; distance = 678 } }

five : lines_of (billed Done) ≡ 49 ∷ 50 ∷ 10 ∷ 51 ∷ 10 ∷ 52 ∷ 53 ∷ 10 ∷ 48 ∷ 10 ∷ 54 ∷ 55 ∷ 56 ∷ 10 ∷ []
unfolding billed decimal_text digits_within
five = refl

-- a sixth line: 81, and 82
six :
    (lines_of (billed (Refused CutBill)) ≡ 49 ∷ 50 ∷ 10 ∷ 51 ∷ 10 ∷ 52 ∷ 53 ∷ 10 ∷ 48 ∷ 10 ∷ 54 ∷ 55 ∷ 56 ∷ 10 ∷ 56 ∷ 49 ∷ 10 ∷ [])
    × (lines_of (billed (Refused PastTotal)) ≡ 49 ∷ 50 ∷ 10 ∷ 51 ∷ 10 ∷ 52 ∷ 53 ∷ 10 ∷ 48 ∷ 10 ∷ 54 ∷ 55 ∷ 56 ∷ 10 ∷ 56 ∷ 50 ∷ 10 ∷ [])
unfolding billed decimal_text digits_within
six = (refl, refl)
