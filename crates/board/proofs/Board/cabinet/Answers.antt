-- A board that is none is refused and writes nothing; else the slice is filled with what its readings measure. Assumes nothing.
use mathlib.Core.List.{List}
use mathlib.Core.Path.{◌≡◌, refl, ap, ◌∙◌}
use mathlib.Core.Bool.{true, false, not}
use Prim.Native.Nat.{ℕ}
use lib.ListN.{length}
use Rattle.refusals.specs.declared.Refusal.TheVariants.{NoBoard}
use Rattle.refusals.specs.Refusals.{Outcome, Refused}
use Rattle.cabinet.specs.Cabinet.{Fills}
use Rattle.board.specs.declared.Answer.{Answer}
use Rattle.board.specs.declared.Board.{Board}
use Rattle.board.specs.State.{usable, measured_in}
use Rattle.board.specs.Promises.{Leaves}
use Rattle.board.specs.Calls.{cabinet, shape}
use Rattle.board.proofs.Shape.{no_board, some_board, unchanging, writes, writes_nothing}
use Rattle.board.proofs.Board.cabinet.Goals as goal

module _ {b : Board} {before : List ℕ} {o : Outcome} {r : Answer} where
  filled : {after : List ℕ} → usable b ≡ true → Fills (measured_in b) before o after → r ≡ record { outcome = o; board = b }
      → Leaves b (cabinet (length before)) before r after
  unfolding shape
  filled some f told =
      let c = cabinet (length before) in
      writes b c refl some f.outcome_is f.slice (unchanging b (shape c) o refl refl) told

  unfilled : usable b ≡ false → o ≡ Refused NoBoard → r ≡ record { outcome = o; board = b }
      → Leaves b (cabinet (length before)) before r before
  unfolding shape
  unfilled = writes_nothing b (cabinet (length before)) refl

pub returns-then-is_err : goal.returns-then-is_err
returns-then-is_err c =
    let (none-usable, is) = no_board _ c.outcome-outcome.ensures (c.is_err.ensures.negation ∙ ap not c.if-is_err.true) in
    unfilled none-usable is c.with_outcome.ensures

pub returns : goal.returns
returns c =
    let (some, is) = some_board _ c.outcome-outcome.ensures (c.is_err.ensures.negation ∙ ap not c.if-is_err.false) in
    filled some (rw c.measured.ensures at c.fill-filled.ensures) c.with_outcome-2.ensures
