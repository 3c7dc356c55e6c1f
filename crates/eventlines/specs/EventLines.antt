-- The lines that tell a tick's events.
-- Assumes nothing.
use Rattle.std.specs.Prelude.{cond, List, [], ◌∷◌, ◌++◌, ℕ, eqb}
use Rattle.text.specs.Digits.{decimal_text, hex_text, each_text}

-- a line for each event: tick number, a space (32), two upper-case hex digits; it ends with LF (10)
abbrev pub event_line : ℕ → ℕ → List ℕ
event_line tick event = decimal_text tick ++ (32 ∷ hex_text event ++ (10 ∷ []))

-- 0 is no event
abbrev pub line_of : ℕ → ℕ → List ℕ
line_of tick event = cond (eqb event 0) [] (event_line tick event)

-- the events of a tick, in their order
abbrev pub lines_of : ℕ → List ℕ → List ℕ
lines_of tick events = each_text (line_of tick) events
