-- A board that is none is refused and writes nothing, and so is a record of another length; else the record is that of the hire that ends,
-- the hire is new and the pack as it was. Assumes nothing.
use mathlib.Core.Bool.{true, false, false≢true, not}
use mathlib.Core.List.{List}
use mathlib.Core.Path.{◌≡◌, refl, sym, ap, ◌∙◌}
use Prim.Native.Nat.{ℕ}
use lib.ListN.{length}
use Rattle.refusals.specs.declared.Refusal.TheVariants.{NoBoard}
use Rattle.refusals.specs.Refusals.{Outcome, Refused, is_done}
use Rattle.refusals.proofs.Rows.{done_is}
use Rattle.desk.specs.Desk.{Puts}
use Rattle.board.specs.declared.Answer.{Answer}
use Rattle.board.specs.declared.Board.{Board}
use Rattle.board.specs.State.{usable}
use Rattle.board.specs.Handover.{record_for, handed_hire, handed_over}
use Rattle.board.specs.Promises.{Leaves}
use Rattle.board.specs.Calls.{handover, shape, board_by}
use borrow.Author.Tests.{not-true, not-false}
use Rattle.board.proofs.Shape.{no_board, some_board, kept, holds_on, writes, writes_nothing}
use Rattle.board.proofs.Board.handover.Goals as goal

module _ {b : Board} {number : ℕ} {before after : List ℕ} {o : Outcome} {r : Answer} where
  -- the record is put and the hire is new
  handed : usable b ≡ true → Puts (record_for b number) before o after → is_done o ≡ true
      → r ≡ record { outcome = o; board = record { pack = b.pack; hire = handed_hire b } }
      → Leaves b (handover number (length before)) before r after
  unfolding shape board_by handed_over
  handed some put d told =
      let c = handover number (length before) in
      writes b c refl some put.outcome_is put.bytes (sym (ap (board_by b (shape c)) (done_is o d))) told

  -- nothing written, and no handover done
  not-handed : usable b ≡ true → Puts (record_for b number) before o after → is_done o ≡ false → r ≡ record { outcome = o; board = b }
      → Leaves b (handover number (length before)) before r after
  unfolding shape
  not-handed some put d told =
      let c = handover number (length before) in
      let refused = kept b (shape c) o (λ e. false≢true (sym d ∙ ap is_done e)) (holds_on b (shape c) o refl) in
      writes b c refl some put.outcome_is put.bytes (sym refused) told

none-handed : {b : Board} {number : ℕ} {before : List ℕ} {o : Outcome} {r : Answer} → usable b ≡ false → o ≡ Refused NoBoard
    → r ≡ record { outcome = o; board = b } → Leaves b (handover number (length before)) before r before
unfolding shape
none-handed {b} {number} {before} = writes_nothing b (handover number (length before)) refl

pub returns-then-is_err : goal.returns-then-is_err
returns-then-is_err c =
    let (none-usable, is) = no_board _ c.outcome-outcome.ensures (c.is_err.ensures.negation ∙ ap not c.if-is_err.true) in
    none-handed none-usable is c.with_outcome.ensures

pub returns-then-not-is_put : goal.returns-then-not-is_put
returns-then-not-is_put c =
    let (some, is) = some_board _ c.outcome-outcome.ensures (c.is_err.ensures.negation ∙ ap not c.if-is_err.false) in
    not-handed some (rw c.ended.ensures at c.put-put.ensures)
    (sym c.is_ok-is_put.ensures.value ∙ not-true _ (ap not c.if-not-is_put.true)) c.with_outcome-then-not-is_put.ensures

pub returns : goal.returns
returns c =
    let (some, is) = some_board _ c.outcome-outcome.ensures (c.is_err.ensures.negation ∙ ap not c.if-is_err.false) in
    handed some (rw c.ended.ensures at c.put-put.ensures)
    (sym c.is_ok-is_put.ensures.value ∙ not-false _ (ap not c.if-not-is_put.false))
    (rw (c.with_hire.ensures, c.new-hire.ensures) at c.with_outcome-2.ensures)
