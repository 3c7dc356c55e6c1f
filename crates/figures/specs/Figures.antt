-- Figures, times and durations as a page prints them. Letters are written by their codes; 0xC2 0xA0 is a space that no line breaks at.
-- Assumes nothing.
use Rattle.std.specs.Prelude.{Bool, true, false, cond, not, ◌&&◌, List, [], ◌∷◌, ◌++◌, ℕ, ◌+◌, ◌-◌, ◌/◌, ◌%◌, ◌^◌, min, eqb, leb, ltb, length, drop}
use Rattle.text.specs.Digits.{digit, decimal_text}

-- ---- figures

-- a comma (44) stands behind a digit where three, six or any threes of digits are left
abbrev pub comma_text : ℕ → List ℕ
comma_text left = cond (ltb 0 left && eqb (left % 3) 0) (44 ∷ []) []

-- digits with the commas among them
abbrev pub grouped_text : List ℕ → List ℕ
grouped_text [] = []
grouped_text (d ∷ ds) = (d ∷ comma_text (length ds)) ++ grouped_text ds

-- a number has its thousands with commas
abbrev pub count_text : ℕ → List ℕ
count_text n = grouped_text (decimal_text n)

-- save in the table of numbers
abbrev pub whole_text : Bool → ℕ → List ℕ
whole_text commas n = cond commas (count_text n) (decimal_text n)

-- the last four digits of a number, with zeros before it
abbrev pub last_digits : ℕ → List ℕ
last_digits n = digit (n / 1000) ∷ digit (n / 100) ∷ digit (n / 10) ∷ digit n ∷ []

-- a point (46) and so many of the last digits, four at most; no point where there are no places
abbrev pub decimals_text : ℕ → ℕ → List ℕ
decimals_text places n = cond (eqb places 0) [] (46 ∷ drop (4 - places) (last_digits n))

-- an ASCII minus (45)
abbrev pub minus_text : Bool → List ℕ
minus_text told = cond told (45 ∷ []) []

-- a size counts the last of its places: 28973 of four places is 2.8973; 0 has no minus
abbrev pub places_text : Bool → Bool → ℕ → ℕ → List ℕ
places_text commas negative size places =
    minus_text (negative && not (eqb size 0)) ++ whole_text commas (size / 10 ^ places) ++ decimals_text places size

-- more than four places are four
abbrev pub figure_text : Bool → Bool → ℕ → ℕ → List ℕ
figure_text commas negative size places = places_text commas negative size (min places 4)

-- ---- times: tick t is at t tenths of a second

-- hours, minutes and seconds have two digits each
abbrev pub two_digits : ℕ → List ℕ
two_digits n = digit (n / 10) ∷ digit n ∷ []

-- ', hh:mm:ss.t': a comma and a space before them, colons (58) between
abbrev pub clock_text : ℕ → List ℕ
clock_text t =
    44 ∷ 32 ∷ (two_digits (t / 36000 % 24) ++ (58 ∷ two_digits (t / 600 % 60)) ++ (58 ∷ two_digits (t / 10 % 60)) ++ (46 ∷ digit t ∷ []))

-- 'Day d, hh:mm:ss.t', d = t/864000 + 1
abbrev pub time_text : ℕ → List ℕ
time_text t = (68 ∷ 97 ∷ 121 ∷ 0xC2 ∷ 0xA0 ∷ []) ++ count_text (t / 864000 + 1) ++ clock_text t

-- ---- durations

-- a number and its unit, where it is told
abbrev pub part_text : Bool → ℕ → List ℕ → List ℕ
part_text told n unit = cond told (count_text n ++ unit) []

-- two units, the larger first
abbrev pub pair_text : ℕ → List ℕ → ℕ → List ℕ → List ℕ
pair_text large unit small next = part_text true large unit ++ part_text true small next

-- the units 'd', 'h', 'min' and 's'; no line breaks between a number and its unit
abbrev pub days : List ℕ
days = 0xC2 ∷ 0xA0 ∷ 100 ∷ []

abbrev pub hours : List ℕ
hours = 0xC2 ∷ 0xA0 ∷ 104 ∷ []

abbrev pub minutes : List ℕ
minutes = 0xC2 ∷ 0xA0 ∷ 109 ∷ 105 ∷ 110 ∷ []

abbrev pub seconds : List ℕ
seconds = 0xC2 ∷ 0xA0 ∷ 115 ∷ []

-- a unit that another follows behind a space (32)
abbrev pub followed : List ℕ → List ℕ
followed unit = unit ++ (32 ∷ [])

-- seconds with their tenths
abbrev pub seconds_text : ℕ → List ℕ
seconds_text tenths = figure_text true false tenths 1 ++ seconds

-- an hour and more
abbrev pub long_text : ℕ → List ℕ
long_text t =
    cond (ltb t 864000) (pair_text (t / 36000) (followed hours) (t / 600 % 60) minutes)
    (pair_text (t / 864000) (followed days) (t / 36000 % 24) hours)

-- the two largest units, the rest cut
abbrev pub duration_text : ℕ → List ℕ
duration_text t =
    cond (ltb t 600) (seconds_text t)
    (cond (ltb t 36000) (pair_text (t / 600) (followed minutes) (t / 10 % 60) seconds) (long_text t))

-- all units, from the largest that the duration has down to tenths of a second
abbrev pub whole_duration_text : ℕ → List ℕ
whole_duration_text t =
    part_text (leb 864000 t) (t / 864000) (followed days)
    ++ part_text (leb 36000 t) (t / 36000 % 24) (followed hours)
    ++ part_text (leb 600 t) (t / 600 % 60) (followed minutes)
    ++ seconds_text (t % 600)
