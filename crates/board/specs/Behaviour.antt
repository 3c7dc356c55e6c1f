-- Any machine that is started and called as the board is.
-- Assumes nothing.
use Rattle.std.specs.Prelude.{List, [], ◌∷◌, ℕ}
use Rattle.refusals.specs.Refusals.{Outcome}
use Rattle.board.specs.declared.Board.{Board}
use Rattle.board.specs.Start.{start_board, start_of}
use Rattle.board.specs.Calls.{Call, Seen, step}

-- a state type, a start (cell count, pulses per km) with what it comes to, and a step on calls
pub record Behaviour : Type 1 where
  pub State : Type 0
  pub start : ℕ → ℕ → State
  pub started : ℕ → ℕ → Outcome
  pub step : State → Call → State × Seen

-- the state after a list of calls, and what the caller sees at each
unfoldable pub after_in : (B : Behaviour) → B.State → List Call → B.State
after_in B s [] = s
after_in B s (c ∷ cs) = after_in B (B.step s c).0 cs

unfoldable pub answers_in : (B : Behaviour) → B.State → List Call → List Seen
answers_in B s [] = []
answers_in B s (c ∷ cs) = (B.step s c).1 ∷ answers_in B (B.step s c).0 cs

-- our board
abbrev pub board : Behaviour
board = record { State = Board; start = start_board; started = λ cells per_km. (start_of cells per_km).outcome; step = step }
