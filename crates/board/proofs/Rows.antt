-- Each row of a call that the board itself has, computed: a call at which just it applies, and one at which two do. (The rows of readings,
-- requests, settings and areas: the facts of those crates.) Assumes nothing.
use mathlib.Core.Path.{◌≡◌, refl}
use mathlib.Core.List.{List, [], ◌∷◌}
use Prim.Native.Nat.{ℕ}
use lib.ListN.{replicate}
use Rattle.refusals.specs.Refusals.{number_of}
use Rattle.readings.specs.Readings.{no_readings}
use Rattle.board.specs.Start.{start_board}
use Rattle.board.specs.Calls.{Call, tick, frame, handover, offer, fetch, save, load, cabinet, keep, recall, outcome_in, board_after}
use Rattle.board.proofs.Opened.{opened}

-- the numbers that calls get, each on the board that the calls before it leave
numbers : ℕ → List Call → List ℕ
numbers cells = go (start_board cells 2000)
  where
    go : Rattle.board.specs.declared.Board.Board → List Call → List ℕ
    go b [] = []
    go b (c ∷ cs) = number_of (outcome_in b c) ∷ go (board_after b c) cs

-- idle: AA 18 7F 1A
idle : List ℕ
idle = 0xAA ∷ 0x18 ∷ 0x7F ∷ 0x1A ∷ []

-- 21: every call of a board that is none, whatever else applies
none : numbers 3 (tick [] no_readings ∷ frame [] 0 ∷ handover 0 31 ∷ offer idle ∷ fetch 0 ∷ save 0 ∷ load [] ∷ cabinet 19 ∷ keep []
    ∷ recall [] 0 ∷ []) ≡ replicate 10 21
unfolding numbers opened
none = refl

-- 1: a frame and a fetch with room for 258 bytes; also of no frame at all, and with none held
room : numbers 4 (frame idle 258 ∷ frame [] 258 ∷ fetch 258 ∷ offer idle ∷ fetch 258 ∷ []) ≡ 1 ∷ 1 ∷ 1 ∷ 0 ∷ 1 ∷ []
unfolding numbers idle opened
room = refl

-- 6: an offer while a frame is held, of no bytes too; 7: a fetch with none held; a frame that is fetched is gone
held : numbers 4 (fetch 259 ∷ offer idle ∷ offer [] ∷ offer idle ∷ fetch 259 ∷ fetch 259 ∷ []) ≡ 7 ∷ 0 ∷ 6 ∷ 6 ∷ 0 ∷ 7 ∷ []
unfolding numbers idle opened
held = refl

-- 2 and 3 by `frame`, before what the bytes ask; 31 by a save, 71 by a cabinet's call, 83 by a handover, 51 by a keep and a recall
others : numbers 4 (frame (0xAB ∷ 0x18 ∷ 0x00 ∷ 0x00 ∷ []) 259 ∷ frame (0xAA ∷ 0x00 ∷ 0x00 ∷ 0x00 ∷ []) 259 ∷ save 247 ∷ save 248
    ∷ cabinet 19 ∷ cabinet 20 ∷ handover 0 31 ∷ handover 0 32 ∷ keep [] ∷ recall [] 0 ∷ []) ≡ 2 ∷ 3 ∷ 31 ∷ 0 ∷ 71 ∷ 0 ∷ 83 ∷ 0 ∷ 51 ∷ 51 ∷ []
unfolding numbers opened
others = refl
