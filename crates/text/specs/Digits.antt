-- What a number is as text, and where a text is put.
-- Assumes nothing.
use Rattle.std.specs.Prelude.{Bool, cond, ◌&&◌, List, [], ◌∷◌, ◌++◌, ◌≡◌, ℕ, zero, suc, ◌+◌, ◌/◌, ◌%◌, eqb, leb, ltb, length}
use Rattle.std.proofs.lemmas.List.Edits.{sets}

-- the code of a number's last decimal digit
abbrev pub digit : ℕ → ℕ
digit n = 48 + n % 10

-- numbers are decimal, with no zeros before them: the digits of the tenth part, if the number goes so far, and then the last digit
-- (the choice is applied afterwards, so that nothing but the digits is computed); so many at most stand before the last
unfoldable pub digits_within : ℕ → ℕ → List ℕ
digits_within zero n = digit n ∷ []
digits_within (suc more) n = cond (ltb n 10) (λ (tenth : ℕ). []) (digits_within more) (n / 10) ++ (digit n ∷ [])

-- no number has more digits before its last than it counts
unfoldable pub decimal_text : ℕ → List ℕ
decimal_text n = digits_within n n

-- upper-case hex digits: 0 to 9, then A to F
abbrev pub hex_digit : ℕ → ℕ
hex_digit n = cond (ltb n 10) (48 + n) (55 + n)

-- two upper-case hex digits a byte
abbrev pub hex_text : ℕ → List ℕ
hex_text byte = hex_digit (byte / 16) ∷ hex_digit (byte % 16) ∷ []

-- four upper-case hex digits
abbrev pub word_text : ℕ → List ℕ
word_text word = hex_text (word / 256) ++ hex_text (word % 256)

-- one text for each byte, in their order
abbrev pub each_text : (ℕ → List ℕ) → List ℕ → List ℕ
each_text text [] = []
each_text text (b ∷ bs) = text b ++ each_text text bs

-- bytes, with a space before each
abbrev pub spaced_text : ℕ → List ℕ
spaced_text byte = 32 ∷ hex_text byte

abbrev pub bytes_text : List ℕ → List ℕ
bytes_text bs = each_text spaced_text bs

-- how many bytes there are up to the last that is not zero
abbrev pub used : List ℕ → ℕ
used [] = 0
used (b ∷ bs) = cond (eqb b 0 && eqb (used bs) 0) 0 (suc (used bs))

-- ---- where it is put

-- is there room for a text from a place on?
abbrev pub fits : List ℕ → ℕ → List ℕ → Bool
fits out at text = leb (at + length text) (length out)

-- a text stands from a place on, and the place after it
pub record Wrote (before : List ℕ) (at : ℕ) (text : List ℕ) (next : ℕ) (after : List ℕ) : Type 0 where
  pub place : next ≡ at + length text
  pub bytes : after ≡ sets before at text

-- the same if there is room for it; if not, nothing is put and the place stays
pub record Put (before : List ℕ) (at : ℕ) (text : List ℕ) (next : ℕ) (after : List ℕ) : Type 0 where
  pub place : next ≡ cond (fits before at text) (at + length text) at
  pub bytes : after ≡ cond (fits before at text) (sets before at text) before
