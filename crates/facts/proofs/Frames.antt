-- The published examples of document 000, 1.3.1 to 1.3.3, as whole requests and whole replies: what each comes to and all 259 bytes
-- of the reply buffer. Assumes nothing.
use Rattle.std.specs.Prelude.{Some}
use mathlib.Core.Path.{◌≡◌, refl}
use mathlib.Core.Bool.{false}
use mathlib.Core.List.{List, [], ◌∷◌, ◌++◌, map}
use Prim.Native.Nat.{ℕ}
use lib.IntN.{pos}
use lib.ListN.{replicate}
use Rattle.refusals.specs.Refusals.{Outcome, Done}
use Rattle.board.specs.declared.Board.{Board}
use Rattle.board.specs.Start.{start_board}
use Rattle.board.specs.Calls.{tick, frame, outcome_in, board_after, buffer_after}
use Rattle.board.proofs.Opened.{opened}
use Rattle.facts.proofs.Calls.{reading_of, shown_by}

-- a request comes to that and gets a whole reply: those bytes, then n zeros
abbrev pub Gets : Board → List ℕ → Outcome → List ℕ → ℕ → Type 0
Gets b s outcome reply n = (outcome_in b (frame s 259) ≡ outcome) × (buffer_after b (frame s 259) ≡ reply ++ replicate n 0)

-- ---- 1.3.1: over-voltage cutoff to 4.2 V, under-voltage cutoff to 2.5 V

abbrev write : List ℕ
write = 0xAA ∷ 0x10 ∷ 0x01 ∷ 0x3B ∷ 0x00 ∷ 0x02 ∷ 0x04 ∷ 0x10 ∷ 0x68 ∷ 0x09 ∷ 0xC4 ∷ 0x19 ∷ 0x61 ∷ []

pub written :
    Gets (start_board 4 2000) write Done (0xAA ∷ 0x10 ∷ 0x01 ∷ 0x3B ∷ 0x00 ∷ 0x02 ∷ 0x28 ∷ 0x22 ∷ []) 251
    × (map (shown_by (start_board 4 2000)) (315 ∷ 316 ∷ []) ≡ map Some (4200 ∷ 2900 ∷ []))
    × (map (shown_by (board_after (start_board 4 2000) (frame write 259))) (315 ∷ 316 ∷ []) ≡ map Some (4200 ∷ 2500 ∷ []))
unfolding opened
written = ((refl, refl), refl, refl)

-- ---- a board of ten cells that read those of 1.3.2 and the temperatures of 1.3.3

abbrev pub read : Board
read =
    board_after (start_board 10 2000) (tick
    (38000 ∷ 38001 ∷ 38002 ∷ 38003 ∷ 38004 ∷ 38720 ∷ 38720 ∷ 38700 ∷ 38700 ∷ 38700 ∷ [])
    (reading_of (pos 0) (pos 278) (pos 276) (pos 278) 0 false))

-- 1.3.2: five registers from 5 on, high byte first
pub registers :
    (map (shown_by read) (5 ∷ 6 ∷ 7 ∷ 8 ∷ 9 ∷ []) ≡ map Some (38720 ∷ 38720 ∷ 38700 ∷ 38700 ∷ 38700 ∷ []))
    × Gets read (0xAA ∷ 0x03 ∷ 0x00 ∷ 0x05 ∷ 0x00 ∷ 0x05 ∷ 0x8C ∷ 0x13 ∷ []) Done
    (0xAA ∷ 0x03 ∷ 0x0A ∷ 0x97 ∷ 0x40 ∷ 0x97 ∷ 0x40 ∷ 0x97 ∷ 0x2C ∷ 0x97 ∷ 0x2C ∷ 0x97 ∷ 0x2C ∷ 0x3E ∷ 0xC7 ∷ []) 244
unfolding opened
registers = (refl, (refl, refl))

-- 1.3.3: 27.8 °C, 27.6 °C, 27.8 °C, low byte first
pub temperatures :
    Gets read (0xAA ∷ 0x1B ∷ 0x3F ∷ 0x1B ∷ []) Done
    (0xAA ∷ 0x1B ∷ 0x06 ∷ 0x16 ∷ 0x01 ∷ 0x14 ∷ 0x01 ∷ 0x16 ∷ 0x01 ∷ 0x0E ∷ 0x4E ∷ []) 248
unfolding opened
temperatures = (refl, refl)
