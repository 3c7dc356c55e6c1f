-- What the definitions come to, computed. Letters are written by their codes: 48 is 0, 44 a comma, 46 a point.
-- Assumes nothing.
use mathlib.Core.Path.{◌≡◌, refl}
use mathlib.Core.Bool.{true, false}
use mathlib.Core.List.{[], ◌∷◌}
use Rattle.text.specs.Digits.{digits_within, decimal_text}
use Rattle.figures.specs.Figures.{count_text, figure_text, time_text, duration_text, whole_duration_text}

-- '6,048,000', '72,000', '999' and '8'
pub counts : (count_text 6048000 ≡ 54 ∷ 44 ∷ 48 ∷ 52 ∷ 56 ∷ 44 ∷ 48 ∷ 48 ∷ 48 ∷ [])
    × (count_text 72000 ≡ 55 ∷ 50 ∷ 44 ∷ 48 ∷ 48 ∷ 48 ∷ [])
    × (count_text 999 ≡ 57 ∷ 57 ∷ 57 ∷ [])
    × (count_text 8 ≡ 56 ∷ [])
unfolding decimal_text digits_within
counts = (refl, refl, refl, refl)

-- '2.8973', '-3.9', '628.97', '1,000.0', '60', '0.3'; '0.0' has no minus
pub figures : (figure_text true false 28973 4 ≡ 50 ∷ 46 ∷ 56 ∷ 57 ∷ 55 ∷ 51 ∷ [])
    × (figure_text true true 39 1 ≡ 45 ∷ 51 ∷ 46 ∷ 57 ∷ [])
    × (figure_text true false 62897 2 ≡ 54 ∷ 50 ∷ 56 ∷ 46 ∷ 57 ∷ 55 ∷ [])
    × (figure_text true false 10000 1 ≡ 49 ∷ 44 ∷ 48 ∷ 48 ∷ 48 ∷ 46 ∷ 48 ∷ [])
    × (figure_text true false 60 0 ≡ 54 ∷ 48 ∷ [])
    × (figure_text true false 3 1 ≡ 48 ∷ 46 ∷ 51 ∷ [])
    × (figure_text true true 0 1 ≡ 48 ∷ 46 ∷ 48 ∷ [])
unfolding decimal_text digits_within
figures = (refl, refl, refl, refl, refl, refl, refl)

-- '-1000.000', and places past four are four: '2.8973'
pub plain : (figure_text false true 1000000 3 ≡ 45 ∷ 49 ∷ 48 ∷ 48 ∷ 48 ∷ 46 ∷ 48 ∷ 48 ∷ 48 ∷ [])
    × (figure_text false false 28973 9 ≡ 50 ∷ 46 ∷ 56 ∷ 57 ∷ 55 ∷ 51 ∷ [])
unfolding decimal_text digits_within
plain = (refl, refl)

-- 'Day 1, 00:42:36.2'
pub time : time_text 25562
    ≡ 68 ∷ 97 ∷ 121 ∷ 0xC2 ∷ 0xA0 ∷ 49 ∷ 44 ∷ 32 ∷ 48 ∷ 48 ∷ 58 ∷ 52 ∷ 50 ∷ 58 ∷ 51 ∷ 54 ∷ 46 ∷ 50 ∷ []
unfolding decimal_text digits_within
time = refl

-- '0.0 s', '5.1 s', '7 min 40 s', '3 h 55 min' and '3 d 2 h', whatever is cut
pub durations : (duration_text 0 ≡ 48 ∷ 46 ∷ 48 ∷ 0xC2 ∷ 0xA0 ∷ 115 ∷ [])
    × (duration_text 51 ≡ 53 ∷ 46 ∷ 49 ∷ 0xC2 ∷ 0xA0 ∷ 115 ∷ [])
    × (duration_text 4609 ≡ 55 ∷ 0xC2 ∷ 0xA0 ∷ 109 ∷ 105 ∷ 110 ∷ 32 ∷ 52 ∷ 48 ∷ 0xC2 ∷ 0xA0 ∷ 115 ∷ [])
    × (duration_text 141599 ≡ 51 ∷ 0xC2 ∷ 0xA0 ∷ 104 ∷ 32 ∷ 53 ∷ 53 ∷ 0xC2 ∷ 0xA0 ∷ 109 ∷ 105 ∷ 110 ∷ [])
    × (duration_text 2699999 ≡ 51 ∷ 0xC2 ∷ 0xA0 ∷ 100 ∷ 32 ∷ 50 ∷ 0xC2 ∷ 0xA0 ∷ 104 ∷ [])
unfolding decimal_text digits_within
durations = (refl, refl, refl, refl, refl)

-- '7 d 0 h 0 min 0.0 s', '2 h 0 min 0.0 s' and '12.3 s'
pub whole_durations : (whole_duration_text 6048000
    ≡ 55 ∷ 0xC2 ∷ 0xA0 ∷ 100 ∷ 32 ∷ 48 ∷ 0xC2 ∷ 0xA0 ∷ 104 ∷ 32 ∷ 48 ∷ 0xC2 ∷ 0xA0 ∷ 109 ∷ 105 ∷ 110 ∷ 32
    ∷ 48 ∷ 46 ∷ 48 ∷ 0xC2 ∷ 0xA0 ∷ 115 ∷ [])
    × (whole_duration_text 72000
    ≡ 50 ∷ 0xC2 ∷ 0xA0 ∷ 104 ∷ 32 ∷ 48 ∷ 0xC2 ∷ 0xA0 ∷ 109 ∷ 105 ∷ 110 ∷ 32 ∷ 48 ∷ 46 ∷ 48 ∷ 0xC2 ∷ 0xA0 ∷ 115 ∷ [])
    × (whole_duration_text 123 ≡ 49 ∷ 50 ∷ 46 ∷ 51 ∷ 0xC2 ∷ 0xA0 ∷ 115 ∷ [])
unfolding decimal_text digits_within
whole_durations = (refl, refl, refl)
