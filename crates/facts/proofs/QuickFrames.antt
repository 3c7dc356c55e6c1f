-- W-202, computed: whole requests of 0x07, 0x09, 0x0B and 0x0D and whole replies; and the same requests off the raw line, byte by byte.
-- Assumes nothing.
use Rattle.std.specs.Prelude.{Some}
use mathlib.Core.Path.{◌≡◌, refl}
use mathlib.Core.List.{List, [], ◌∷◌, ◌++◌, map}
use Prim.Native.Nat.{ℕ}
use lib.ListN.{length, replicate}
use Rattle.refusals.specs.declared.Refusal.TheVariants.{WrongField, OutOfRange, FrameHeld}
use Rattle.refusals.specs.Refusals.{Outcome, Done, Refused}
use Rattle.board.specs.declared.Board.{Board}
use Rattle.board.specs.Start.{start_board}
use Rattle.board.specs.Calls.{Call, frame, offer, fetch, board_after}
use Rattle.board.specs.Behaviour.{board, answers_in}
use Rattle.board.proofs.Opened.{opened}
use Rattle.facts.proofs.Calls.{shown_by}
use Rattle.facts.proofs.Frames.{Gets, read}

abbrev fresh : Board
fresh = start_board 4 2000

-- ---- reads

-- 0x07: five registers from 5 on, as 0x03 gives them, low byte first
abbrev block : List ℕ
block = 0xAA ∷ 0x07 ∷ 0x05 ∷ 0x05 ∷ 0x00 ∷ 0x2E ∷ 0x3D ∷ []

pub by_block : Gets read block Done
    (0xAA ∷ 0x07 ∷ 0x0A ∷ 0x40 ∷ 0x97 ∷ 0x40 ∷ 0x97 ∷ 0x2C ∷ 0x97 ∷ 0x2C ∷ 0x97 ∷ 0x2C ∷ 0x97 ∷ 0xB3 ∷ 0x2B ∷ []) 244
unfolding opened
by_block = (refl, refl)

-- 0x09: 5, 116, 315 and 5 again: the list mixes the three ranges and repeats an address
abbrev list : List ℕ
list = 0xAA ∷ 0x09 ∷ 0x08 ∷ 0x05 ∷ 0x00 ∷ 0x74 ∷ 0x00 ∷ 0x3B ∷ 0x01 ∷ 0x05 ∷ 0x00 ∷ 0x07 ∷ 0xEE ∷ []

pub by_list :
    Gets read list Done
    (0xAA ∷ 0x09 ∷ 0x10 ∷ 0x05 ∷ 0x00 ∷ 0x40 ∷ 0x97 ∷ 0x74 ∷ 0x00 ∷ 0x00 ∷ 0x00
    ∷ 0x3B ∷ 0x01 ∷ 0x68 ∷ 0x10 ∷ 0x05 ∷ 0x00 ∷ 0x40 ∷ 0x97 ∷ 0xD0 ∷ 0x24 ∷ []) 238
unfolding opened
by_list = (refl, refl)

-- 5 and 56, which is in no range
pub outside : Gets read (0xAA ∷ 0x09 ∷ 0x04 ∷ 0x05 ∷ 0x00 ∷ 0x38 ∷ 0x00 ∷ 0xF3 ∷ 0x5F ∷ []) (Refused WrongField)
    (0xAA ∷ 0x00 ∷ 0x09 ∷ 0x00 ∷ 0x27 ∷ 0xAC ∷ []) 253
unfolding opened
outside = (refl, refl)

-- ---- writes, and what 315 and 316 show after them

abbrev limits : List ℕ → List ℕ → Type 0
limits s values = map (shown_by (board_after fresh (frame s 259))) (315 ∷ 316 ∷ []) ≡ map Some values

-- 0x0B: 315 to 4200, 316 to 2500
abbrev write : List ℕ
write = 0xAA ∷ 0x0B ∷ 0x06 ∷ 0x3B ∷ 0x01 ∷ 0x68 ∷ 0x10 ∷ 0xC4 ∷ 0x09 ∷ 0x1D ∷ 0xCC ∷ []

pub written_by_block : Gets fresh write Done (0xAA ∷ 0x01 ∷ 0x0B ∷ 0x11 ∷ 0xB7 ∷ []) 254 × limits write (4200 ∷ 2500 ∷ [])
unfolding opened
written_by_block = ((refl, refl), refl)

-- 0x0D: 315 to 3000, which alone is against the ordering rule, 316 to 2500, and 315 to 4200
abbrev pairs : List ℕ
pairs = 0xAA ∷ 0x0D ∷ 0x0C ∷ 0x3B ∷ 0x01 ∷ 0xB8 ∷ 0x0B ∷ 0x3C ∷ 0x01 ∷ 0xC4 ∷ 0x09 ∷ 0x3B ∷ 0x01 ∷ 0x68 ∷ 0x10 ∷ 0x8E ∷ 0x87 ∷ []

pub written_by_list : Gets fresh pairs Done (0xAA ∷ 0x01 ∷ 0x0D ∷ 0x91 ∷ 0xB5 ∷ []) 254 × limits pairs (4200 ∷ 2500 ∷ [])
unfolding opened
written_by_list = ((refl, refl), refl)

-- 302, which is unlisted, to 5 and to 0
pub passed : Gets fresh (0xAA ∷ 0x0D ∷ 0x08 ∷ 0x2E ∷ 0x01 ∷ 0x05 ∷ 0x00 ∷ 0x2E ∷ 0x01 ∷ 0x00 ∷ 0x00 ∷ 0x18 ∷ 0xED ∷ []) Done
    (0xAA ∷ 0x01 ∷ 0x0D ∷ 0x91 ∷ 0xB5 ∷ []) 254
unfolding opened
passed = (refl, refl)

-- 316 to 2500, 302 to 0 and to 5: nothing is taken
abbrev refused : List ℕ
refused = 0xAA ∷ 0x0D ∷ 0x0C ∷ 0x3C ∷ 0x01 ∷ 0xC4 ∷ 0x09 ∷ 0x2E ∷ 0x01 ∷ 0x00 ∷ 0x00 ∷ 0x2E ∷ 0x01 ∷ 0x05 ∷ 0x00 ∷ 0xC5 ∷ 0x38 ∷ []

pub not_taken :
    Gets fresh refused (Refused (OutOfRange 302)) (0xAA ∷ 0x00 ∷ 0x0D ∷ 0x00 ∷ 0x25 ∷ 0x6C ∷ []) 253 × limits refused (4200 ∷ 2900 ∷ [])
unfolding opened
not_taken = ((refl, refl), refl)

-- ---- off the raw line: 7 bytes, and 5+PL

-- each byte of a request is taken, and then the request is held and answered
abbrev bytewise : List ℕ → List Call
bytewise s = map (λ b. offer (b ∷ [])) s ++ (offer (0xAA ∷ []) ∷ fetch 259 ∷ [])

abbrev told : List Call → List (Outcome × ℕ)
told cs = map (λ a. (a.outcome, a.carried)) (answers_in board fresh cs)

abbrev Heard : List ℕ → Type 0
Heard s = told (bytewise s) ≡ replicate (length s) (Done, 1) ++ ((Refused FrameHeld, 0) ∷ (Done, 0) ∷ [])

pub heard : Heard block × Heard list × Heard write × Heard pairs
unfolding opened
heard = (refl, refl, refl, refl)
