-- Words, and what is read of them. A place in a line stands for what the line has from there on, `drop place line`.
-- Assumes nothing.
use Rattle.std.specs.Prelude.{Bool, true, false, not, ◌&&◌, cond, List, [], ◌∷◌, ◌++◌, ◌≡◌, ℕ, ◌+◌, eqb, leb, length, take, drop, Option}
use Rattle.std.specs.Prelude.{None, Some}
use Rattle.text.specs.Lines.{until}
use Rattle.text.specs.declared.words.Figure.{Figure}

-- words are parted by spaces (32), and by nothing else
abbrev pub is_space : ℕ → Bool
is_space b = eqb b 32

abbrev pub is_no_space : ℕ → Bool
is_no_space b = not (is_space b)

-- the word that a text starts with: all up to a space or the end
abbrev pub word : List ℕ → List ℕ
word [] = []
word (b ∷ bs) = cond (is_space b) [] (b ∷ word bs)

-- does a word end here?
abbrev pub ends_word : List ℕ → Bool
ends_word [] = true
ends_word (b ∷ bs) = is_space b

-- Words are parted by one or more spaces: a word starts at each byte that is no space and has a space, or nothing, before it
abbrev pub words_behind : ℕ → List ℕ → List (List ℕ)
words_behind before [] = []
words_behind before (b ∷ bs) = cond (is_space before && is_no_space b) (word (b ∷ bs) ∷ words_behind b bs) (words_behind b bs)

abbrev pub words_of : List ℕ → List (List ℕ)
words_of text = words_behind 32 text

-- the place of the next word at or after a place; past the line if there is none
abbrev pub word_at : List ℕ → ℕ → ℕ
word_at line from = from + until is_no_space (drop from line)

-- does a text start with this word, whole?
abbrev pub stands : List ℕ → List ℕ → Bool
stands [] text = ends_word text
stands (w ∷ ws) [] = false
stands (w ∷ ws) (b ∷ bs) = cond (eqb b w) (stands ws bs) false

-- the place after a word that stands at a place; none if it does not
abbrev pub place_after : List ℕ → List ℕ → ℕ → Option ℕ
place_after word line from = cond (stands word (drop from line)) (Some (from + length word)) None

-- ---- a word read as a number

-- what is read, and the place after it; none where the word is missing or wrong
abbrev pub figure : ℕ → Option ℕ → Option Figure
figure next None = None
figure next (Some value) = Some (record { value = value; next = next })

-- the word at a place
abbrev pub read_at : (List ℕ → Option ℕ) → List ℕ → ℕ → Option Figure
read_at read line at = figure (at + length (word (drop at line))) (read (word (drop at line)))

-- the next word at or after a place
abbrev pub figure_of : (List ℕ → Option ℕ) → List ℕ → ℕ → Option Figure
figure_of read line from = read_at read line (word_at line from)

-- ---- every word that is left

-- the values of words, up to the first that has none
abbrev pub and_more : Option ℕ → List ℕ → List ℕ
and_more None values = []
and_more (Some value) values = value ∷ values

abbrev pub values_of : (List ℕ → Option ℕ) → List (List ℕ) → List ℕ
values_of read [] = []
values_of read (w ∷ ws) = and_more (read w) (values_of read ws)

-- how many words there are, if each has a value and a place
abbrev pub series_of : (List ℕ → Option ℕ) → List (List ℕ) → ℕ → Option ℕ
series_of read words room = cond (leb (length words) room && eqb (length (values_of read words)) (length words)) (Some (length words)) None

-- what stands in front of a list
abbrev pub in_front : List ℕ → List ℕ → List ℕ
in_front values list = values ++ drop (length values) list

-- what a function gives, and that the values stand in front of what it was lent, as many as have a place
pub record Entered (read : List ℕ → Option ℕ) (words : List (List ℕ)) (before : List ℕ) (series : Option ℕ) (after : List ℕ) : Type 0 where
  pub many : series ≡ series_of read words (length before)
  pub them : after ≡ in_front (take (length before) (values_of read words)) before
