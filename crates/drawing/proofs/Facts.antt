-- What the definitions come to, computed, as the pages of a ride and of a week have it. Texts are bytes: 77 is M, 72 H, 86 V, 104 h, 118 v,
-- 122 z, 48 to 57 the digits. Assumes nothing.
use mathlib.Core.Path.{◌≡◌, refl}
use mathlib.Core.Bool.{true, false}
use mathlib.Core.List.{[], ◌∷◌}
use Rattle.text.specs.Digits.{digits_within, decimal_text}
use Rattle.drawing.specs.Heights.{share_of, scale_of, open_scale_of, place_of}
use Rattle.drawing.specs.Paths.{corner_text, step_text, side_text, outline, band_text, any_set, box_text, run_text, runs_text}
use Rattle.drawing.specs.Marks.{steps, mark_step, mark_place, has_label, label_text}

-- ---- scales: cells of a ride, from 2.900 V to 4.200 V, in a panel 100 high; the limits stand at 140 and 859

ride : place_of (scale_of (record { lowest = 29000; highest = 42000 }) (record { lowest = 30429; highest = 38770 }) 100) 42000 ≡ 140
unfolding scale_of share_of
ride = refl

ride_low : place_of (scale_of (record { lowest = 29000; highest = 42000 }) (record { lowest = 30429; highest = 38770 }) 100) 29000 ≡ 859
unfolding scale_of share_of
ride_low = refl

-- of a week, whose lowest cell is below the limit
week_low : place_of (scale_of (record { lowest = 29000; highest = 42000 }) (record { lowest = 28933; highest = 41807 }) 100) 29000 ≡ 856
unfolding scale_of share_of
week_low = refl

-- a speed of 23.4 on a scale to 25.0, and any on a scale of nothing
speed : place_of (open_scale_of 234 250) 234 ≡ 64
unfolding open_scale_of share_of
speed = refl

nothing_shown : place_of (open_scale_of 0 0) 0 ≡ 0
unfolding open_scale_of share_of
nothing_shown = refl

-- ---- M0 338H2V368H3V900H2V700H1V800H0z: three columns, the first two of equal tops

three : band_text (338 ∷ 338 ∷ 368 ∷ []) (800 ∷ 700 ∷ 900 ∷ [])
    ≡ 77 ∷ 48 ∷ 32 ∷ 51 ∷ 51 ∷ 56 ∷ 72 ∷ 50 ∷ 86 ∷ 51 ∷ 54 ∷ 56 ∷ 72 ∷ 51 ∷ 86 ∷ 57 ∷ 48 ∷ 48 ∷ 72 ∷ 50 ∷ 86 ∷ 55 ∷ 48 ∷ 48 ∷ 72 ∷ 49 ∷ 86
    ∷ 56 ∷ 48 ∷ 48 ∷ 72 ∷ 48 ∷ 122 ∷ []
unfolding outline side_text step_text corner_text decimal_text digits_within
three = refl

-- M0 5H1V0H0z: one column, whose bottom is missing
one : band_text (5 ∷ []) [] ≡ 77 ∷ 48 ∷ 32 ∷ 53 ∷ 72 ∷ 49 ∷ 86 ∷ 48 ∷ 72 ∷ 48 ∷ 122 ∷ []
unfolding outline side_text step_text corner_text decimal_text digits_within
one = refl

-- ---- M1 0h2v1h-2zM4 0h1v1h-1z: bit 2 in columns 1, 2 and 4

two_runs : runs_text 2 (1 ∷ 2 ∷ 3 ∷ 4 ∷ 6 ∷ []) 1
    ≡ 77 ∷ 49 ∷ 32 ∷ 48 ∷ 104 ∷ 50 ∷ 118 ∷ 49 ∷ 104 ∷ 45 ∷ 50 ∷ 122 ∷ 77 ∷ 52 ∷ 32 ∷ 48 ∷ 104 ∷ 49 ∷ 118 ∷ 49 ∷ 104 ∷ 45 ∷ 49 ∷ 122 ∷ []
unfolding runs_text run_text box_text decimal_text digits_within
two_runs = refl

no_runs : runs_text 8 (1 ∷ 2 ∷ 3 ∷ []) 1000 ≡ []
unfolding runs_text run_text
no_runs = refl

set_somewhere : any_set 4 (1 ∷ 2 ∷ 4 ∷ []) ≡ true
set_somewhere = refl

set_nowhere : any_set 8 (1 ∷ 2 ∷ 4 ∷ []) ≡ false
set_nowhere = refl

-- ---- marks: 10 s every 2 s, 2 h every 15 min, a day every 3 h, two days every 6 h, a week every day, a month every week

ten_seconds : mark_step 100 ≡ 2
unfolding mark_step steps
ten_seconds = refl

two_hours : mark_step 72000 ≡ 900
unfolding mark_step steps
two_hours = refl

a_day : mark_step 864000 ≡ 10800
unfolding mark_step steps
a_day = refl

two_days : mark_step 1728000 ≡ 21600
unfolding mark_step steps
two_days = refl

a_week : mark_step 6048000 ≡ 86400
unfolding mark_step steps
a_week = refl

a_month : mark_step 25920000 ≡ 604800
unfolding mark_step steps
a_month = refl

-- a week has 739 columns of 8192 ticks: the second day stands at 14.27 %, and at 99.90 % there is no label
second_day : mark_place 86400 6053888 ≡ 1427
unfolding share_of
second_day = refl

eighth_day : mark_place 604800 6053888 ≡ 9990
unfolding share_of
eighth_day = refl

seventh_labelled : has_label 518400 86400 6053888 ≡ true
seventh_labelled = refl

eighth_not : has_label 604800 86400 6053888 ≡ false
eighth_not = refl

-- "Day 2" of a week and of two days, "6:00" of two days, "8 s" of ten, "5 min" of half an hour, "0:15" of two hours
day_two : label_text 86400 86400 6048000 ≡ 68 ∷ 97 ∷ 121 ∷ 32 ∷ 50 ∷ []
unfolding label_text decimal_text digits_within
day_two = refl

day_start : label_text 86400 21600 1728000 ≡ 68 ∷ 97 ∷ 121 ∷ 32 ∷ 50 ∷ []
unfolding label_text decimal_text digits_within
day_start = refl

six : label_text 108000 21600 1728000 ≡ 54 ∷ 58 ∷ 48 ∷ 48 ∷ []
unfolding label_text decimal_text digits_within
six = refl

eight_seconds : label_text 8 2 100 ≡ 56 ∷ 32 ∷ 115 ∷ []
unfolding label_text decimal_text digits_within
eight_seconds = refl

five_minutes : label_text 300 300 18000 ≡ 53 ∷ 32 ∷ 109 ∷ 105 ∷ 110 ∷ []
unfolding label_text decimal_text digits_within
five_minutes = refl

quarter : label_text 900 900 72000 ≡ 48 ∷ 58 ∷ 49 ∷ 53 ∷ []
unfolding label_text decimal_text digits_within
quarter = refl
