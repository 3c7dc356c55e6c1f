-- Start takes a cell count (4 to 16) and pulses per km (0 to 65,535; 0 means no wheel sensor). Settings begin at the factory
-- values, everything else at zero, switches off, status 0x97.
-- Assumes nothing.
use Rattle.std.specs.Prelude.{ℕ}
use Rattle.pack.specs.Pack.{new_pack, start_outcome}
use Rattle.hire.specs.Hire.{new_hire}
use Rattle.board.specs.declared.Board.{Board}
use Rattle.board.specs.declared.Answer.{Answer}

unfoldable pub start_board : ℕ → ℕ → Board
start_board cells per_km = record { pack = new_pack cells per_km; hire = new_hire 0 }

-- refused: cell count outside 4 to 16
abbrev pub start_of : ℕ → ℕ → Answer
start_of cells per_km = record { outcome = start_outcome (start_board cells per_km).pack; board = start_board cells per_km }
