-- Marks of the time axis: the step from mark to mark in seconds, where a mark stands, and its label. A second has ten ticks; the axis is
-- `span` ticks long, of which `ticks` are recorded. Assumes nothing.
use Rattle.std.specs.Prelude.{Bool, cond, not, ◌||◌, ◌&&◌, List, [], ◌∷◌, ◌++◌, ℕ, zero, suc, ◌+◌, ◌-◌, ◌*◌, ◌^◌, ◌/◌, ◌%◌, min, eqb, leb, ltb}
use Rattle.text.specs.Digits.{decimal_text, digit}
use Rattle.drawing.specs.Heights.{most_whole, share_of}

-- ---- how far apart

-- doubled on, so many times
abbrev pub doubled_on : ℕ → ℕ → List ℕ
doubled_on zero step = []
doubled_on (suc n) step = 2 * step ∷ doubled_on n (2 * step)

-- steps in s: 1 2 5 10 15 30, 60 120 300 600 900 1800, 3600 7200 10800 21600 43200, 86400 172800 604800, then doubled on: as often as any
-- recording of 2^46 ticks asks
abbrev pub last_step : ℕ
last_step = 604800 * 2 ^ 21

unfoldable pub steps : List ℕ
steps =
    1 ∷ 2 ∷ 5 ∷ 10 ∷ 15 ∷ 30 ∷ 60 ∷ 120 ∷ 300 ∷ 600 ∷ 900 ∷ 1800 ∷ 3600 ∷ 7200 ∷ 10800 ∷ 21600 ∷ 43200 ∷ 86400 ∷ 172800 ∷ 604800
    ∷ doubled_on 21 604800

-- the first with step · 80 ≥ ticks
abbrev pub first_reaching : ℕ → List ℕ → ℕ
first_reaching ticks [] = last_step
first_reaching ticks (step ∷ more) = cond (leb ticks (step * 80)) step (first_reaching ticks more)

-- for more ticks than the last step reaches, the last
unfoldable pub mark_step : ℕ → ℕ
mark_step ticks = first_reaching ticks steps

-- ---- where

-- floor(10t · 10000 / span) hundredths of a per cent, never more than all; a span of 0 is read as 1, and a longer one than 2^50 as 2^50
abbrev pub mark_place : ℕ → ℕ → ℕ
mark_place second span = share_of (10 * second) span 10000

-- ---- the label

-- no label where (span - 10t) · 4 < step · 30, save at 0; a longer step than 2^50 is read as 2^50, and past the span none is left
abbrev pub has_label : ℕ → ℕ → ℕ → Bool
has_label second step span = eqb second 0 || not (ltb ((span - 10 * second) * 4) (min step most_whole * 30))

-- step of a day or more, or more than a day recorded and t at a day's start
abbrev pub is_day : ℕ → ℕ → ℕ → Bool
is_day second step ticks = leb 86400 step || (ltb 864000 ticks && eqb (second % 86400) 0)

-- "Day d", "N s", "N min", and "h:mm" of the hour and minute of the day
abbrev pub day_text : ℕ → List ℕ
day_text second = (68 ∷ 97 ∷ 121 ∷ 32 ∷ []) ++ decimal_text (second / 86400 + 1)

abbrev pub seconds_text : ℕ → List ℕ
seconds_text second = decimal_text second ++ (32 ∷ 115 ∷ [])

abbrev pub minutes_text : ℕ → List ℕ
minutes_text second = decimal_text (second / 60) ++ (32 ∷ 109 ∷ 105 ∷ 110 ∷ [])

abbrev pub clock_text : ℕ → List ℕ
clock_text second = decimal_text (second / 3600 % 24) ++ (58 ∷ digit (second / 60 % 60 / 10) ∷ digit (second / 60 % 60) ∷ [])

-- a day; else a step under 60: seconds; at most an hour recorded: minutes; else the time of day
unfoldable pub label_text : ℕ → ℕ → ℕ → List ℕ
label_text second step ticks =
    cond (is_day second step ticks) (day_text second)
    (cond (ltb step 60) (seconds_text second) (cond (leb ticks 36000) (minutes_text second) (clock_text second)))
