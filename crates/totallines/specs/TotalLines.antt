-- The lines that tell a bill (W-214 of document 02).
-- Assumes nothing.
use Rattle.std.specs.Prelude.{List, [], ◌∷◌, ◌++◌, ℕ, Ok, Err}
use Rattle.refusals.specs.Refusals.{Outcome, Done, Refused, refusal_number}
use Rattle.text.specs.Digits.{decimal_text, each_text}
use Rattle.totals.specs.declared.Billed.{Billed}

-- a line each, a decimal number and nothing else; it ends with LF (10)
abbrev pub line_of : ℕ → List ℕ
line_of n = decimal_text n ++ (10 ∷ [])

-- after a refusal its number
abbrev pub refusal_in : Outcome → List ℕ
refusal_in (Ok done) = []
refusal_in (Err refusal) = refusal_number refusal ∷ []

-- the count and the exact totals of seconds, positive sum, negative sum and distance; then the number
abbrev pub values_of : Billed → List ℕ
values_of b =
    b.totals.count ∷ b.totals.seconds ∷ b.totals.positive ∷ b.totals.negative ∷ b.totals.distance ∷ refusal_in b.outcome

abbrev pub lines_of : Billed → List ℕ
lines_of b = each_text line_of (values_of b)
