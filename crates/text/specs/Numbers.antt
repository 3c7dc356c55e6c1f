-- What a word is as a number, and what it is as a byte.
-- Assumes nothing.
use Rattle.std.specs.Prelude.{Bool, true, false, ◌&&◌, cond, List, [], ◌∷◌, ℕ, ◌+◌, ◌-◌, ◌*◌, eqb, leb, Option, None, Some, option_map}
use Rattle.laws.specs.Fold.{gather}

-- from least to most
abbrev pub between : ℕ → ℕ → ℕ → Bool
between least most n = leb least n && leb n most

-- the digits 0 to 9 are the codes 48 to 57
abbrev pub is_digit : ℕ → Bool
is_digit b = between 48 57 b

abbrev pub all_digits : List ℕ → Bool
all_digits [] = true
all_digits (b ∷ bs) = cond (is_digit b) (all_digits bs) false

-- numbers are decimal: digits and nothing else, at least one
abbrev pub is_number : List ℕ → Bool
is_number [] = false
is_number (b ∷ bs) = all_digits (b ∷ bs)

-- ten times what the digits before it say, and the digit
abbrev pub decimal_of : List ℕ → ℕ
decimal_of word = gather (λ n b. 10 * n + (b - 48)) 0 word

-- a number from 0 to most
abbrev pub number_of : ℕ → List ℕ → Option ℕ
number_of most word = cond (is_number word && leb (decimal_of word) most) (Some (decimal_of word)) None

-- with a leading - (45) if they may be negative: a number from -most - 1 to most, told as most + 1 more
abbrev pub signed_of : ℕ → List ℕ → Option ℕ
signed_of most [] = None
signed_of most (b ∷ bs) =
    cond (eqb b 45) (option_map (λ n. most + 1 - n) (number_of (most + 1) bs)) (option_map (λ n. most + 1 + n) (number_of most (b ∷ bs)))

-- a hex digit of either case: 0 to 9, A to F (65 to 70), a to f (97 to 102); none where it is none
abbrev pub hex_of : ℕ → Option ℕ
hex_of b =
    cond (is_digit b) (Some (b - 48)) (cond (between 65 70 b) (Some (b - 65 + 10)) (cond (between 97 102 b) (Some (b - 97 + 10)) None))

-- two digits, where both are some
abbrev pub two_digits : Option ℕ → Option ℕ → Option ℕ
two_digits None low = None
two_digits (Some high) None = None
two_digits (Some high) (Some low) = Some (16 * high + low)

-- a byte is two hex digits
abbrev pub byte_of : List ℕ → Option ℕ
byte_of [] = None
byte_of (a ∷ []) = None
byte_of (a ∷ b ∷ []) = two_digits (hex_of a) (hex_of b)
byte_of (a ∷ b ∷ c ∷ more) = None
