-- What the definitions come to, computed: tick 133 with event 0x77, and a tick with two of eight events. 48 is 0, 10 the end of a line.
-- Assumes nothing.
use mathlib.Core.Path.{◌≡◌, refl}
use mathlib.Core.List.{[], ◌∷◌}
use Rattle.text.specs.Digits.{digits_within, decimal_text}
use Rattle.eventlines.specs.EventLines.{line_of, lines_of}

pub one : line_of 133 0x77 ≡ 49 ∷ 51 ∷ 51 ∷ 32 ∷ 55 ∷ 55 ∷ 10 ∷ []
unfolding decimal_text digits_within
one = refl

pub two : lines_of 9 (0 ∷ 0x05 ∷ 0 ∷ 0 ∷ 0x6A ∷ 0 ∷ 0 ∷ 0 ∷ []) ≡ 57 ∷ 32 ∷ 48 ∷ 53 ∷ 10 ∷ 57 ∷ 32 ∷ 54 ∷ 65 ∷ 10 ∷ []
unfolding decimal_text digits_within
two = refl
