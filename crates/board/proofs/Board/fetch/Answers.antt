-- No board, no room or no frame held leaves zeros; else the held frame's own answer, and nothing held. Assumes nothing.
use mathlib.Core.Path.{◌≡◌, refl, sym, ap, ◌∙◌}
use mathlib.Core.Bool.{Bool, true, false, not, cond}
use mathlib.Core.List.{List, []}
use Prim.Native.Nat.{ℕ}
use native.Mathlib.Omega.{arith}
use lib.Dec.{ltb}
use lib.ListN.{length}
use Rattle.refusals.specs.declared.Refusal.TheVariants.{NoRoom, NoBoard}
use Rattle.refusals.specs.Refusals.{Outcome, Done, Refused, is_done, first}
use Rattle.std.specs.Prelude.{Ok, Err}
use Rattle.refusals.proofs.Rows.{refused_not, done_is, off, and_then, first_append}
use Rattle.replies.specs.Replies.{padded}
use Rattle.replies.proofs.Writing.{whole}
use Rattle.requests.specs.Requests.{request_of}
use Rattle.board.specs.declared.Answer.{Answer}
use Rattle.board.specs.declared.Board.{Board}
use Rattle.board.specs.State.{usable, with_receiver}
use Rattle.board.specs.Line.{held_in, let_go}
use Rattle.board.specs.Changes.{changed_by}
use Rattle.receiver.proofs.Held.{front, within, front_length}
use Rattle.board.specs.Calls.{fetch, frame_rows, shape, lost, outcome_of, board_by, outcome_in}
use Rattle.board.specs.Promises.{ready_rows, request_outcome, Readied, Leaves, Answered}
use Rattle.board.proofs.Asked.{by_table, request_lost, ready_blank, blank, replied}
use Rattle.board.proofs.Board.fetch.Goals as goal

fetched : (b : Board) (room : ℕ) → outcome_in b (fetch room) ≡ and_then (first (ready_rows b room)) (request_outcome b (held_in b))
unfolding outcome_of shape
fetched b room =
    first_append (ready_rows b room) (frame_rows b (held_in b)) ∙ ap (and_then (first (ready_rows b room))) (sym (by_table b (held_in b)))

-- the held frame is let go, whatever it is answered
gone : (b : Board) (room : ℕ)
    → let_go (cond (is_done (request_outcome b (held_in b))) (changed_by b (held_in b) (request_of (held_in b))) b)
    ≡ board_by b (shape (fetch room)) (request_outcome b (held_in b))
unfolding shape board_by
gone b room = go (request_outcome b (held_in b)) (request_lost b (held_in b))
  where
    changed : Board
    changed = changed_by b (held_in b) (request_of (held_in b))

    go : (o : Outcome) → ((o ≡ Done → ⊥) → lost o ≡ true) → let_go (cond (is_done o) changed b) ≡ board_by b (shape (fetch room)) o
    go (Ok done) l = refl
    go (Err refusal) l = rw (l (refused_not refusal)) refl

module _ (b : Board) {before after : List ℕ} {o : Outcome} (told : Readied b (length before) o) where
  unanswered : {r : Answer} → is_done o ≡ false → r ≡ record { outcome = o; board = b } → after ≡ padded (length before) []
      → Leaves b (fetch (length before)) before r after
  unfolding shape
  unanswered f p q =
      blank {c = fetch (length before)} (first (ready_rows b (length before))) refl (fetched b (length before)) told.outcome
      (ready_blank b (length before) (sym (ap is_done told.outcome) ∙ f)) p q

  answers : {a r : Answer} {x : Board} → is_done o ≡ true → Answered b (held_in b) before a after → x ≡ let_go a.board
      → r ≡ record { outcome = a.outcome; board = x } → Leaves b (fetch (length before)) before r after
  unfolding shape
  answers {a} {r} {x} f g e p =
      let d : first (ready_rows b (length before)) ≡ Done = sym told.outcome ∙ done_is o f in
      let room = (off NoRoom (ltb (length before) 259) _ (off NoBoard (not (usable b)) _ d).1).0 in
      replied {c = fetch (length before)} (first (ready_rows b (length before))) refl (fetched b (length before)) d room
      (e ∙ ap (λ (y : Answer). let_go y.board) g.answer ∙ gone b (length before)) (p ∙ ap (λ (y : Answer). record {
        outcome =
            y.outcome;
        board = x;
      }) g.answer) g.reply

pub returns-then-is_err : goal.returns-then-is_err
returns-then-is_err c =
    unanswered _ c.ready-outcome.ensures (c.is_err.ensures.negation ∙ ap not c.if-is_err.true) c.with_outcome.ensures
    (whole c.zero_from.ensures (omega arith))

pub slice_bounds-bytes-end : goal.slice_bounds-bytes-end
slice_bounds-bytes-end c = within c.args.self.hire.receiver c.length-count.result c.length-count.ensures.0

pub slice_bounds-answered-end : goal.slice_bounds-answered-end
slice_bounds-answered-end c = front_length c.args.self.hire.receiver c.length-count.result c.length-count.ensures.0

pub returns : goal.returns
returns c =
    answers _ c.ready-outcome.ensures (c.is_err.ensures.negation ∙ ap not c.if-is_err.false)
    (rw (front c.args.self.hire.receiver c.length-count.result c.length-count.ensures.0) at c.answered-answer.ensures)
    (c.with_receiver.ensures ∙ ap (with_receiver c.answered-answer.result.board) c.none.ensures)
    c.with_outcome-2.ensures
