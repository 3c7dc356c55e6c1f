-- The paths of a panel: the outline of a band, and a box for each run of columns with a bit set. Of the letters, M (77) begins at a place,
-- H (72) goes along to a column, V (86) up or down to a height, h (104) and v (118) go on by so much, and z (122) closes. 32 is a space, 45
-- a minus, 48 the digit 0. Assumes nothing.
use Rattle.std.specs.Prelude.{Bool, true, false, cond, List, [], ◌∷◌, ◌++◌, ℕ, zero, suc, ◌+◌, ◌-◌, ◌/◌, ◌%◌, max, eqb, length, get_or}
use Rattle.laws.specs.History.{any}
use Rattle.text.specs.Digits.{decimal_text}

-- one text after the other: those of 0, 1 and so on, n of them
abbrev pub in_turn : (ℕ → List ℕ) → ℕ → List ℕ
in_turn text zero = []
in_turn text (suc n) = in_turn text n ++ text n

-- ---- a band: the tops of its columns, and the bottoms; a height that is missing is 0

-- a letter and a number
abbrev pub part_text : ℕ → ℕ → List ℕ
part_text letter n = letter ∷ decimal_text n

-- `HiVy`
unfoldable pub corner_text : ℕ → ℕ → List ℕ
corner_text i height = part_text 72 i ++ part_text 86 height

-- where the height of column i differs from that of column i - 1, `HiV` and the one on which it goes on: of column i, or on the way back of
-- column i - 1. Equal neighbours cost nothing
unfoldable pub step_text : Bool → List ℕ → ℕ → List ℕ
step_text back heights i =
    cond (eqb (get_or heights (i - 1) 0) (get_or heights i 0)) [] (corner_text i (cond back (get_or heights (i - 1) 0) (get_or heights i 0)))

-- for i = 1.. up to the last column, and back for i = the last ..1
abbrev pub edge_at : Bool → ℕ → ℕ → ℕ
edge_at back last k = cond back (last - k) (k + 1)

abbrev pub step_at : Bool → List ℕ → ℕ → ℕ → List ℕ
step_at back heights last k = step_text back heights (edge_at back last k)

unfoldable pub side_text : Bool → List ℕ → ℕ → List ℕ
side_text back heights last = in_turn (step_at back heights last) last

-- `M0 top0`, along the tops, `HnVbottom(n-1)`, back along the bottoms, `H0z`; the last column is n - 1
unfoldable pub outline : ℕ → List ℕ → List ℕ → List ℕ
outline last tops bottoms =
    (77 ∷ 48 ∷ 32 ∷ [])
    ++ decimal_text (get_or tops 0 0)
    ++ side_text false tops last
    ++ corner_text (last + 1) (get_or bottoms last 0)
    ++ side_text true bottoms last
    ++ (72 ∷ 48 ∷ 122 ∷ [])

-- as many columns as there are tops; without columns there is no band
abbrev pub band_text : List ℕ → List ℕ → List ℕ
band_text tops bottoms = cond (eqb (length tops) 0) [] (outline (length tops - 1) tops bottoms)

-- ---- the runs of a bit

-- is the bit of this weight set? A weight of 0 is read as 1
abbrev pub is_set : ℕ → ℕ → Bool
is_set of word = eqb (word / max 1 of % 2) 1

abbrev pub any_set : ℕ → List ℕ → Bool
any_set of bits = any (is_set of) bits

-- how many columns in a row are set, the last of them the one before i
abbrev pub run_to : ℕ → List ℕ → ℕ → ℕ
run_to of bits zero = 0
run_to of bits (suc i) = cond (is_set of (get_or bits i 0)) (suc (run_to of bits i)) 0

-- how many columns the longest run has that ends with column i; 0 where none ends there, because it is not set or the next one is
abbrev pub ending_run : ℕ → List ℕ → ℕ → ℕ
ending_run of bits i = cond (is_set of (get_or bits (i + 1) 0)) 0 (run_to of bits (i + 1))

-- `Ma 0h(b-a+1)vHh-(b-a+1)z`: from column a on, so many columns wide
unfoldable pub box_text : ℕ → ℕ → ℕ → List ℕ
box_text from count height =
    part_text 77 from
    ++ (32 ∷ 48 ∷ 104 ∷ [])
    ++ decimal_text count
    ++ part_text 118 height
    ++ (104 ∷ 45 ∷ [])
    ++ decimal_text count
    ++ (122 ∷ [])

-- of a run that ends with column i; none of a run of no columns
unfoldable pub run_text : ℕ → ℕ → ℕ → List ℕ
run_text height i count = cond (eqb count 0) [] (box_text (i + 1 - count) count height)

-- for each longest run
abbrev pub run_at : ℕ → List ℕ → ℕ → ℕ → List ℕ
run_at of bits height i = run_text height i (ending_run of bits i)

unfoldable pub runs_text : ℕ → List ℕ → ℕ → List ℕ
runs_text of bits height = in_turn (run_at of bits height) (length bits)
