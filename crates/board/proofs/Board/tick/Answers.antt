-- Readings that are not good, and a board that is none, are refused; else the answer is what the steps give. Assumes nothing.
use mathlib.Core.Path.{◌≡◌, refl, sym, ap, ◌∙◌}
use mathlib.Core.Bool.{Bool, true, false, not, false≢true}
use mathlib.Core.List.{List}
use Prim.Native.Nat.{ℕ}
use lib.ListN.{length}
use Rattle.refusals.specs.Refusals.{Outcome, is_done}
use Rattle.refusals.proofs.Rows.{done_is}
use Rattle.readings.specs.declared.Readings.{Readings}
use Rattle.pack.specs.Pack.{tick_outcome}
use Rattle.board.specs.declared.Answer.{Answer}
use Rattle.board.specs.declared.Board.{Board}
use Rattle.board.specs.Tick.{ticked_of}
use Rattle.board.specs.Promises.{Answers}
use Rattle.board.specs.Calls.{tick, shape, outcome_of, outcome_in}
use Rattle.board.proofs.Shape.{refused, done, holds_on}
use Rattle.board.proofs.Board.tick.Goals as goal

module _ (b : Board) (cells : List ℕ) (rd : Readings) {o : Outcome} (e : o ≡ tick_outcome b.pack rd (length cells)) where
  by : o ≡ outcome_in b (tick cells rd)
  unfolding tick_outcome outcome_of shape
  by = e

  refuses : {r : Answer} → is_done o ≡ false → r ≡ record { outcome = o; board = b } → Answers b (tick cells rd) r
  unfolding shape
  refuses f p =
      p ∙ refused b (tick cells rd) o by (λ z. false≢true (sym f ∙ ap is_done z))
      (holds_on b (shape (tick cells rd)) o refl)

  does : {r : Answer} {x : Board} → is_done o ≡ true → x ≡ ticked_of b cells rd
      → r ≡ record { outcome = o; board = x } → Answers b (tick cells rd) r
  unfolding shape
  does {x = x} f g p = p ∙ done b (tick cells rd) o x (done_is o f) by g

pub returns-then-is_err : goal.returns-then-is_err
returns-then-is_err c =
    refuses _ _ _ c.tick_outcome-outcome.ensures (c.is_err.ensures.negation ∙ ap not c.if-is_err.true) c.with_outcome.ensures

pub returns : goal.returns
returns c =
    does _ _ _ c.tick_outcome-outcome.ensures (c.is_err.ensures.negation ∙ ap not c.if-is_err.false) c.ticked.ensures
    c.with_outcome-2.ensures
