-- W-209 of document 02: no payload exceeds 254, for every accepted request and every board reachable from a start; so a query is accepted
-- wherever it is read, and number 5 is gone. Why: `answers`, Payloads, whatever a board holds. Assumes nothing.
use Rattle.std.specs.Prelude.{Ok}
use mathlib.Core.Path.{◌≡◌, refl, ap, ◌∙◌}
use mathlib.Core.Bool.{Bool, true, false, ◌&&◌, ◌||◌, and-eq-true_iff}
use mathlib.Core.List.{List, [], ◌∷◌, map}
use Prim.Native.Nat.{ℕ, ◌+◌, ◌≤◌}
use native.Mathlib.Omega.{arith}
use borrow.Author.Tests.{leb-true}
use lib.Dec.{leb, ltb}
use lib.ListN.{get_or, replicate}
use Rattle.refusals.specs.Refusals.{Outcome, Done}
use Rattle.requests.specs.declared.Query.{Query}
use Rattle.requests.specs.declared.Query.TheVariants.{Registers}
use Rattle.requests.specs.declared.Request.TheVariants as request
use Rattle.requests.specs.Requests.{request_of}
use Rattle.requests.proofs.Sound.{in_range, reads_in_range, sound}
use Rattle.replies.specs.Replies.{sealed}
use Rattle.answers.specs.Answers.{cells_of, payload_of, reply_bytes, asked_outcome}
use Rattle.answers.proofs.Payloads.{payload_most}
use Rattle.answers.proofs.Made.{most_259}
use Rattle.board.specs.declared.Board.{Board}
use Rattle.board.specs.State.{usable}
use Rattle.board.specs.Start.{start_board}
use Rattle.board.specs.Calls.{Call, frame, outcome_in, buffer_after}
use Rattle.board.specs.Behaviour.{board}
use Rattle.board.specs.Demands.{reached}
use Rattle.board.proofs.Opened.{opened}
use Rattle.facts.proofs.RawLine.{frame_whole}

-- no payload exceeds 254, and no whole reply 259 bytes
module _ (cells per_km : ℕ) (cs : List Call) (s : List ℕ) where
  abbrev after : Board
  after = reached board cells per_km cs

  pub payloads : (q : Query) → request_of s ≡ Ok (request.Read q) → payload_of after.pack after.hire q ≤ 254
  payloads q asks = payload_most after.pack after.hire s q asks

  pub frames : reply_bytes after.pack after.hire (request_of s) ≤ 259
  frames = most_259 after.pack after.hire s

-- a query is accepted by every usable board
pub accepted : (b : Board) (s : List ℕ) (room : ℕ) (q : Query) → usable b ≡ true → ltb room 259 ≡ false → request_of s ≡ Ok (request.Read q)
    → outcome_in b (frame s room) ≡ Done
unfolding asked_outcome
accepted b s room q some large asks = frame_whole b s room some large ∙ ap (asked_outcome b.pack s) asks

-- and 0x1C shows all of its cells
pub all_cells : (b : Board) → usable b ≡ true → cells_of b.pack ≡ b.pack.cells
all_cells b some = let both = (and-eq-true_iff (leb 4 b.pack.cells) (leb b.pack.cells 16)).0 some in omega (arith, leb-true, both)

-- ---- the most that each command carries

-- RL may be 127, and no range has so many registers: a block's payload is at most 200
pub block_most : (b : Board) (s : List ℕ) (command at n : ℕ) → request_of s ≡ Ok (request.Read (Registers command at n))
    → payload_of b.pack b.hire (Registers command at n) ≤ 200
unfolding payload_of reads_in_range in_range
block_most b s command at n e =
    let few = go (leb (at + n) 56) (leb 100 at) (leb (at + n) 118) refl refl refl (rw e at (sound s).lies_in_range) in
    omega arith
  where
    settings : leb 300 at && leb (at + n) 400 ≡ true → n ≤ 100
    settings h = let both = (and-eq-true_iff (leb 300 at) (leb (at + n) 400)).0 h in omega (arith, leb-true, both)

    go : (a c d : Bool) → leb (at + n) 56 ≡ a → leb 100 at ≡ c → leb (at + n) 118 ≡ d
        → a || c && d || leb 300 at && leb (at + n) 400 ≡ true → n ≤ 100
    go true c d e₁ e₂ e₃ h = omega (arith, leb-true)
    go false true true e₁ e₂ e₃ h = omega (arith, leb-true)
    go false true false e₁ e₂ e₃ h = settings h
    go false false d e₁ e₂ e₃ h = settings h

-- each is met, computed: whole requests to a board of 16 cells, what each comes to and PL of its reply. 0x03 and 0x07, 100 registers from
-- 300 on; 0x09, 63 addresses; 0x1B; 0x1C; 0x1D, 100 settings. (62 events, by 0x11 and by 0x12, are 252: SavedEvents.sixty_two)
abbrev largest : List (List ℕ)
largest =
    (0xAA ∷ 0x03 ∷ 0x01 ∷ 0x2C ∷ 0 ∷ 100 ∷ [])
    ∷ (0xAA ∷ 0x07 ∷ 100 ∷ 0x2C ∷ 0x01 ∷ [])
    ∷ (0xAA ∷ 0x09 ∷ 126 ∷ replicate 126 0)
    ∷ (0xAA ∷ 0x1B ∷ [])
    ∷ (0xAA ∷ 0x1C ∷ [])
    ∷ (0xAA ∷ 0x1D ∷ 4 ∷ 0 ∷ 100 ∷ [])
    ∷ []

abbrev told : List ℕ → Outcome × ℕ
told s = let asked = frame (sealed s) 259 in (outcome_in (start_board 16 0) asked, get_or (buffer_after (start_board 16 0) asked) 2 0)

pub met : map told largest ≡ (Done, 200) ∷ (Done, 200) ∷ (Done, 252) ∷ (Done, 6) ∷ (Done, 32) ∷ (Done, 200) ∷ []
unfolding opened
met = refl

-- 0x14 to 0x19, with no PL: their whole replies
pub bare : map (λ command. reply_bytes (start_board 16 0).pack (start_board 16 0).hire (request_of (sealed (0xAA ∷ command ∷ []))))
    (0x14 ∷ 0x15 ∷ 0x16 ∷ 0x17 ∷ 0x18 ∷ 0x19 ∷ []) ≡ 8 ∷ 8 ∷ 6 ∷ 6 ∷ 6 ∷ 8 ∷ []
unfolding opened reply_bytes
bare = refl
