-- A board that is none is refused and writes nothing; else the area is as the save of its events leaves it. Assumes nothing.
use mathlib.Core.List.{List}
use mathlib.Core.Path.{◌≡◌, refl, ap, ◌∙◌}
use mathlib.Core.Bool.{true, false, not}
use Prim.Native.Nat.{ℕ}
use lib.ListN.{length}
use Rattle.refusals.specs.declared.Refusal.TheVariants.{NoBoard}
use Rattle.refusals.specs.Refusals.{Outcome, Refused}
use Rattle.events.specs.Area.{Saves}
use Rattle.board.specs.declared.Answer.{Answer}
use Rattle.board.specs.declared.Board.{Board}
use Rattle.board.specs.State.{usable}
use Rattle.board.specs.Promises.{Leaves}
use Rattle.board.specs.Calls.{save, shape}
use Rattle.board.proofs.Shape.{no_board, some_board, unchanging, writes, writes_nothing}
use Rattle.board.proofs.Board.save.Goals as goal

module _ {b : Board} {before : List ℕ} {o : Outcome} {r : Answer} where
  saved : {after : List ℕ} → usable b ≡ true → Saves b.hire.events before o after → r ≡ record { outcome = o; board = b }
      → Leaves b (save (length before)) before r after
  unfolding shape
  saved some s told =
      let c = save (length before) in
      writes b c refl some s.outcome_is s.area (unchanging b (shape c) o refl refl) told

  unsaved : usable b ≡ false → o ≡ Refused NoBoard → r ≡ record { outcome = o; board = b }
      → Leaves b (save (length before)) before r before
  unfolding shape
  unsaved = writes_nothing b (save (length before)) refl

pub returns-then-is_err : goal.returns-then-is_err
returns-then-is_err c =
    let (none-usable, is) = no_board _ c.outcome-outcome.ensures (c.is_err.ensures.negation ∙ ap not c.if-is_err.true) in
    unsaved none-usable is c.with_outcome.ensures

pub returns : goal.returns
returns c =
    let (some, is) = some_board _ c.outcome-outcome.ensures (c.is_err.ensures.negation ∙ ap not c.if-is_err.false) in
    saved some c.save-saved.ensures c.with_outcome-2.ensures
