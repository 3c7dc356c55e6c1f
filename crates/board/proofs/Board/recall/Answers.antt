-- A board that is none is refused; else the settings are those that the recall leaves. Assumes nothing.
use mathlib.Core.Path.{◌≡◌, refl, sym, ap, ◌∙◌}
use mathlib.Core.Bool.{Bool, true, cond, not}
use mathlib.Core.List.{List}
use Prim.Native.Nat.{ℕ}
use Rattle.refusals.specs.Refusals.{Outcome, is_done, come_to, first}
use Rattle.settings.specs.declared.Settings.{Settings}
use Rattle.settings.specs.Settings.{standing_of}
use Rattle.classes.proofs.Laws.{laws}
use Rattle.refusals.specs.declared.Refusal.{Refusal}
use Rattle.std.specs.Prelude.{Result, Ok, Err}
use Rattle.refusals.proofs.Rows.{come_to_giving}
use Rattle.board.specs.Changes.{written}
use Rattle.classes.specs.Store.{recall_rows, pairs_for, recall_of}
use Rattle.board.specs.declared.Answer.{Answer}
use Rattle.board.specs.declared.Board.{Board}
use Rattle.board.specs.State.{usable, with_settings}
use Rattle.board.specs.Line.{let_go}
use Rattle.board.specs.Calls.{recall, shape, board_by, answer_to}
use Rattle.board.proofs.Shape.{by_rows, no_board, some_board, none, answered, holds_on}
use Rattle.board.proofs.Board.recall.Goals as goal

-- by the rows of the store
recalled : (b : Board) (store : List ℕ) (edition : ℕ) {o : Outcome} {x : Board} → usable b ≡ true → o ≡ first (recall_rows b.pack.settings store edition)
    → x ≡ cond (is_done o) (written b (pairs_for store edition)) b → record { outcome = o; board = x } ≡ answer_to b (recall store edition)
unfolding shape board_by
recalled b store edition {o = o} u e f =
    answered b (recall store edition) o _ (e ∙ sym (by_rows b (shape (recall store edition)) u))
    (f ∙ ap (λ (t : Bool). cond (is_done o) (written b (pairs_for store edition)) (cond t (let_go b) b))
    (sym (holds_on b (shape (recall store edition)) o refl)))

module _ (b : Board) (store : List ℕ) (edition : ℕ) where
  rows : {r : Result Settings Refusal} → r ≡ recall_of b.pack.settings store edition → come_to r ≡ first (recall_rows b.pack.settings store edition)
  unfolding recall_of
  rows e = ap come_to e ∙ come_to_giving _ _

  taken : {st : Settings} → Ok st ≡ recall_of b.pack.settings store edition → with_settings b st ≡ written b (pairs_for store edition)
  unfolding standing_of
  taken e =
      ap (λ (r : Result Settings Refusal). with_settings b (standing_of b.pack.settings r))
      (e ∙ laws.recalling b.pack.settings store edition (sym (ap come_to e)))

pub returns-then-is_err : goal.returns-then-is_err
returns-then-is_err c =
    let (none-usable, is) = no_board _ c.outcome-outcome.ensures (c.is_err.ensures.negation ∙ ap not c.if-is_err.true) in
    c.with_outcome.ensures ∙ none _ (recall _ _) _ is none-usable

pub returns-in-Ok : goal.returns-in-Ok
returns-in-Ok c =
    let (some, is) = some_board _ c.outcome-outcome.ensures (c.is_err.ensures.negation ∙ ap not c.if-is_err.false) in
    let told = sym c.in-Ok.is ∙ c.recall.ensures in
    c.with_outcome-in-Ok.ensures
    ∙ recalled _ _ _ some (rows c.args.self _ _ told) (c.with_settings.ensures ∙ taken _ _ _ told)

pub returns-in-Err : goal.returns-in-Err
returns-in-Err c =
    let (some, is) = some_board _ c.outcome-outcome.ensures (c.is_err.ensures.negation ∙ ap not c.if-is_err.false) in
    c.with_outcome-in-Err.ensures ∙ recalled _ _ _ some (rows c.args.self _ _ (sym c.in-Err.is ∙ c.recall.ensures)) refl
