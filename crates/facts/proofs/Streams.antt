-- W-201, computed: the longest frame byte by byte and the frame after it; noise, a frame with a bad CRC, and what a handover drops; and a
-- fetch on a board that no call reaches.
-- Assumes nothing.
use mathlib.Core.Path.{◌≡◌, refl}
use mathlib.Core.List.{List, [], ◌∷◌, ◌++◌, map}
use Prim.Native.Nat.{ℕ}
use lib.ListN.{length, take, drop, replicate}
use Rattle.refusals.specs.declared.Refusal.TheVariants.{NoRoom, Foreign, Damaged, WrongLength, FrameHeld, NoFrameHeld}
use Rattle.refusals.specs.Refusals.{Outcome, Done, Refused}
use Rattle.replies.specs.Replies.{sealed}
use Rattle.receiver.specs.Receiver.{no_bytes, holding}
use Rattle.board.specs.declared.Board.{Board}
use Rattle.board.specs.State.{with_receiver}
use Rattle.board.specs.Start.{start_board}
use Rattle.board.specs.Calls.{Call, Seen, offer, fetch}
use Rattle.facts.proofs.Calls.{handing}
use Rattle.board.specs.Behaviour.{board, answers_in}
use Rattle.board.proofs.Opened.{opened}

-- what calls are answered on a new board of 4 cells; of each what it came to and the bytes taken
abbrev answers : List Call → List Seen
answers cs = answers_in board (start_board 4 2000) cs

abbrev told : List Call → List (Outcome × ℕ)
told cs = map (λ a. (a.outcome, a.carried)) (answers cs)

abbrev idle : List ℕ
idle = 0xAA ∷ 0x18 ∷ 0x7F ∷ 0x1A ∷ []

-- ---- the longest frame

-- 0x10 with a PL of 255 and a right CRC: 264 bytes, and not the 9+2·RL that its RL asks for
longest : List ℕ
longest = sealed (0xAA ∷ 0x10 ∷ 0x01 ∷ 0x2C ∷ 0x00 ∷ 0x7F ∷ 0xFF ∷ replicate 255 0)

-- offered byte by byte and fetched; then the idle frame
bytewise : List Call
bytewise = map (λ b. offer (b ∷ [])) longest ++ (fetch 259 ∷ offer idle ∷ fetch 259 ∷ [])

the_longest :
    (length longest ≡ 264)
    × (told bytewise ≡ replicate 264 (Done, 1) ++ ((Refused WrongLength, 0) ∷ (Done, 4) ∷ (Done, 0) ∷ []))
    × (map (λ a. take 6 a.buffer) (drop 264 (answers bytewise))
    ≡ (0xAA ∷ 0x00 ∷ 0x10 ∷ 0x00 ∷ 0x2C ∷ 0x3C ∷ []) ∷ [] ∷ (0xAA ∷ 0x18 ∷ 0x97 ∷ 0x00 ∷ 0xCF ∷ 0xCB ∷ []) ∷ [])
unfolding opened longest bytewise
the_longest = (refl, refl, refl)

-- ---- what calls come to, and what is taken

-- noise is skipped and counted; bytes after the frame are not taken; 6 while it is held, 1 with too little room, 7 when it is gone
pub held_until_fetched :
    told (offer (0x00 ∷ 0x18 ∷ [] ++ idle ++ idle) ∷ offer [] ∷ fetch 258 ∷ fetch 259 ∷ fetch 259 ∷ fetch 258 ∷ [])
    ≡ (Done, 6) ∷ (Refused FrameHeld, 0) ∷ (Refused NoRoom, 0) ∷ (Done, 0) ∷ (Refused NoFrameHeld, 0) ∷ (Refused NoRoom, 0) ∷ []
unfolding opened
held_until_fetched = refl

-- a frame with a bad CRC is answered and all its bytes are used up
pub used_up_lem :
    told (offer (0xAA ∷ 0x18 ∷ 0x7F ∷ 0x1B ∷ idle) ∷ fetch 259 ∷ offer idle ∷ fetch 259 ∷ [])
    ≡ (Done, 4) ∷ (Refused Damaged, 0) ∷ (Done, 4) ∷ (Done, 0) ∷ []
unfolding opened
used_up_lem = refl

-- a handover drops an unfinished and a held frame
pub dropped :
    told (offer (0xAA ∷ 0x18 ∷ []) ∷ handing ∷ offer (0x7F ∷ 0x1A ∷ []) ∷ fetch 259 ∷ offer idle ∷ handing ∷ fetch 259 ∷ [])
    ≡ (Done, 2) ∷ (Done, 0) ∷ (Done, 2) ∷ (Refused NoFrameHeld, 0) ∷ (Done, 4) ∷ (Done, 0) ∷ (Refused NoFrameHeld, 0) ∷ []
unfolding opened
dropped = refl

-- ---- a board that no call reaches (Invariants.bounds, held_own)

-- four bytes are held that are no frame: an offer is refused by 6, a fetch answers 2 and lets them go, and the next answers 7
abbrev no_frame : Board
no_frame = with_receiver (start_board 4 2000) (holding (0x00 ∷ 0x00 ∷ 0x00 ∷ 0x00 ∷ []) no_bytes)

pub foreign_held :
    map (λ a. a.outcome) (answers_in board no_frame (offer [] ∷ fetch 259 ∷ fetch 259 ∷ []))
    ≡ Refused FrameHeld ∷ Refused Foreign ∷ Refused NoFrameHeld ∷ []
unfolding opened
foreign_held = refl
