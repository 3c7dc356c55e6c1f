-- No board or no room leaves zeros; else the answer to the request. Assumes nothing.
use mathlib.Core.Path.{◌≡◌, refl, sym, ap, ◌∙◌}
use mathlib.Core.Bool.{Bool, true, false, not, cond}
use mathlib.Core.List.{List, []}
use Prim.Native.Nat.{ℕ}
use native.Mathlib.Omega.{arith}
use lib.Dec.{ltb}
use lib.ListN.{length}
use Rattle.refusals.specs.declared.Refusal.TheVariants.{NoRoom, NoBoard}
use Rattle.refusals.specs.Refusals.{Outcome, Done, is_done, first}
use Rattle.refusals.proofs.Rows.{done_is, off, and_then, first_append}
use Rattle.replies.specs.Replies.{padded}
use Rattle.replies.proofs.Writing.{whole}
use Rattle.requests.specs.Requests.{request_of}
use Rattle.board.specs.declared.Answer.{Answer}
use Rattle.board.specs.declared.Board.{Board}
use Rattle.board.specs.State.{usable}
use Rattle.board.specs.Line.{let_go}
use Rattle.board.specs.Changes.{changed_by}
use Rattle.board.specs.Calls.{frame, frame_rows, shape, outcome_of, board_by, outcome_in}
use Rattle.board.specs.Promises.{room_rows, request_outcome, Roomed, Leaves, Answered}
use Rattle.board.proofs.Shape.{holds_on}
use Rattle.board.proofs.Asked.{by_table, room_blank, blank, replied}
use Rattle.board.proofs.Board.frame.Goals as goal

framed : (b : Board) (s : List ℕ) (room : ℕ) → outcome_in b (frame s room) ≡ and_then (first (room_rows b room)) (request_outcome b s)
unfolding outcome_of shape
framed b s room = first_append (room_rows b room) (frame_rows b s) ∙ ap (and_then (first (room_rows b room))) (sym (by_table b s))

-- the board after it is what the request changes
changes : (b : Board) (s : List ℕ) (room : ℕ) (o : Outcome)
    → cond (is_done o) (changed_by b s (request_of s)) b ≡ board_by b (shape (frame s room)) o
unfolding shape board_by
changes b s room o =
    ap (λ (t : Bool). cond (is_done o) (changed_by b s (request_of s)) (cond t (let_go b) b)) (sym (holds_on b (shape (frame s room)) o refl))

module _ (b : Board) (s : List ℕ) {before after : List ℕ} {r : Answer} {o : Outcome} (told : Roomed b (length before) o)
  where
    unanswered : is_done o ≡ false → r ≡ record { outcome = o; board = b } → after ≡ padded (length before) []
        → Leaves b (frame s (length before)) before r after
    unfolding shape
    unanswered f p q =
        blank {c = frame s (length before)} (first (room_rows b (length before))) refl (framed b s (length before)) told.outcome
        (room_blank b (length before) (sym (ap is_done told.outcome) ∙ f)) p q

    answers : is_done o ≡ true → Answered b s before r after → Leaves b (frame s (length before)) before r after
    unfolding shape
    answers f a =
        let d : first (room_rows b (length before)) ≡ Done = sym told.outcome ∙ done_is o f in
        let room = (off NoRoom (ltb (length before) 259) [] (off NoBoard (not (usable b)) _ d).1).0 in
        replied {c = frame s (length before)} (first (room_rows b (length before))) refl (framed b s (length before)) d room
        (changes b s (length before) (request_outcome b s)) a.answer a.reply

pub returns-then-is_err : goal.returns-then-is_err
returns-then-is_err c =
    unanswered _ _ c.has_room-outcome.ensures (c.is_err.ensures.negation ∙ ap not c.if-is_err.true) c.with_outcome.ensures
    (whole c.zero_from.ensures (omega arith))

pub returns : goal.returns
returns c = answers _ _ c.has_room-outcome.ensures (c.is_err.ensures.negation ∙ ap not c.if-is_err.false) c.answered.ensures
