-- The raw line (W-201). An offer takes bytes up to the end of the first complete frame, says how many it took, and holds that frame. A
-- fetch answers the held frame into a lent buffer as document 01 says, and the receiver goes on. Assumes nothing.
use Rattle.std.specs.Prelude.{Bool, List, ℕ}
use Rattle.receiver.specs.Receiver.{no_bytes, held_of, is_held}
use Rattle.board.specs.declared.Board.{Board}
use Rattle.board.specs.State.{with_receiver}

-- what has come of a frame, and whether it is complete, so that it is held
abbrev pub held_in : Board → List ℕ
held_in b = held_of b.hire.receiver

abbrev pub holds : Board → Bool
holds b = is_held b.hire.receiver

-- the held frame is let go, whatever it is answered: a fetch that answers with a NACK lets the held frame go and changes no other state
abbrev pub let_go : Board → Board
let_go b = with_receiver b no_bytes
