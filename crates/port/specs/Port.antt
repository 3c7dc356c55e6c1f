-- The board at one end of a raw serial line: bytes are offered as they come, each complete frame is fetched, and what goes out is its
-- reply and nothing else.
-- Assumes nothing.
use Rattle.std.specs.Prelude.{List, [], ◌∷◌, ◌≡◌, ℕ, zero, suc, length, take, drop}
use Rattle.answers.specs.Length.{length_in}
use Rattle.board.specs.declared.Board.{Board}
use Rattle.board.specs.Calls.{offer, fetch, board_after, buffer_after, carried_by}
use Rattle.port.specs.declared.Turn.{Turn}

-- ---- a turn: bytes are offered, and the frame that is then held, if there is one, is fetched into a buffer of so many bytes

abbrev pub buffer_of : Board → List ℕ → ℕ → List ℕ
buffer_of b bytes room = buffer_after (board_after b (offer bytes)) (fetch room)

abbrev pub turn_of : Board → List ℕ → ℕ → Turn
turn_of b bytes room =
    record {
      taken = carried_by b (offer bytes);
      length = length_in (buffer_of b bytes room);
      board = board_after (board_after b (offer bytes)) (fetch room);
    }

pub record Answers (b : Board) (bytes before : List ℕ) (r : Turn) (after : List ℕ) : Type 0 where
  pub turn : r ≡ turn_of b bytes (length before)
  pub buffer : after ≡ buffer_of b bytes (length before)

-- ---- turns in a row, each with the bytes that those before it did not take

-- what is said, oldest first, and what then stands
pub record Served : Type 0 where
  pub replies : List (List ℕ)
  pub board : Board
  pub left : List ℕ

abbrev pub still : Board → List ℕ → Served
still b left = record { replies = []; board = b; left = left }

abbrev pub said : List ℕ → Served → Served
said reply s = record { replies = reply ∷ s.replies; board = s.board; left = s.left }

-- at most n turns; 259 bytes are room for every reply
unfoldable pub turns_of : ℕ → Board → List ℕ → Served
turns_of zero b bytes = still b bytes
turns_of (suc n) b [] = still b []
turns_of (suc n) b (x ∷ xs) =
    said (take (turn_of b (x ∷ xs) 259).length (buffer_of b (x ∷ xs) 259))
    (turns_of n (turn_of b (x ∷ xs) 259).board (drop (turn_of b (x ∷ xs) 259).taken (x ∷ xs)))

-- a turn takes a byte at least, but the first where a frame is held
unfoldable pub served_of : Board → List ℕ → Served
served_of b bytes = turns_of (suc (length bytes)) b bytes
