-- How a number is found in one pass over its digits: only a way of making, and no rule of the text.
-- Assumes nothing.
use Rattle.std.specs.Prelude.{Bool, false, ◌&&◌, cond, List, [], ◌∷◌, ℕ, ◌+◌, ◌*◌, ◌%◌, eqb, leb, ltb, drop, Option, None, Some, option_map}
use Rattle.text.specs.Words.{ends_word, figure}
use Rattle.text.specs.declared.words.Figure.{Figure}

-- one digit more, unless the number is too high already for any that is asked for
abbrev pub with_digit : ℕ → ℕ → ℕ
with_digit n b = cond (ltb n 1000000000000) (10 * n + b % 16) n

-- the number whose digits stand from one place to another, if a word ends there
abbrev pub taken_of : List ℕ → ℕ → ℕ → ℕ → ℕ → Option Figure
taken_of line from end value most =
    cond (leb value most) (cond (ltb from end && ends_word (drop end line)) (figure end (Some value)) None) None

abbrev pub starts_minus : List ℕ → Bool
starts_minus [] = false
starts_minus (b ∷ bs) = eqb b 45

-- another number in a figure, if there is one
abbrev pub changed : (ℕ → ℕ) → Option Figure → Option Figure
changed f o = option_map (λ (n : Figure). record { value = f n.value; next = n.next }) o
