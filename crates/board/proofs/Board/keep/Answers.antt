-- A board that is none is refused and writes nothing; else the store is as the keeping of its settings leaves it. Assumes nothing.
use mathlib.Core.Path.{◌≡◌, refl, sym, ap, ◌∙◌, subst⁻¹}
use mathlib.Core.Bool.{true, false, cond, not}
use mathlib.Core.List.{List}
use Prim.Native.Nat.{ℕ}
use Rattle.refusals.specs.declared.Refusal.TheVariants.{NoBoard}
use Rattle.refusals.specs.Refusals.{Outcome, Done, Refused, is_done, giving, come_to, first}
use Rattle.refusals.specs.declared.Refusal.{Refusal}
use Rattle.refusals.proofs.Rows.{come_to_giving}
use Rattle.std.specs.Prelude.{Result, Ok, Err}
use Rattle.std.specs.Result.{result_unwrap_or}
use Rattle.editions.specs.Editions.{next_edition}
use Rattle.classes.specs.Store.{editions_in, keep_rows, kept_store, Keeps}
use Rattle.board.specs.declared.Board.{Board}
use Rattle.board.specs.declared.Stored.{Stored}
use Rattle.board.specs.State.{usable}
use Rattle.board.specs.Promises.{Stores}
use Rattle.board.specs.Calls.{keep, shape, outcome_in}
use Rattle.board.proofs.Shape.{none_21, by_rows, no_board, some_board, unchanging, left_in_lem}
use Rattle.board.proofs.Board.keep.Goals as goal

-- by what it comes to
abbrev made : List ℕ → Outcome → Board → Stored
made store o x = record { outcome = o; edition = cond (is_done o) (next_edition (editions_in store)) 0; board = x }

stored-by : (b : Board) (store : List ℕ) {after : List ℕ} (o : Outcome) → o ≡ outcome_in b (keep store)
    → after ≡ cond (is_done o) (kept_store store b.pack.settings) store → Stores b store (made store o b) after
unfolding shape
stored-by b store o e written =
    let same = unchanging b (shape (keep store)) (outcome_in b (keep store)) refl refl in
    record {
      answer = λ i. made store (e i) (same i);
      lent = written ∙ ap (λ (p : Outcome). cond (is_done p) (kept_store store b.pack.settings) store) e
          ∙ sym (left_in_lem b (keep store) (kept_store store b.pack.settings) store refl);
    }

module _ (b : Board) {store after : List ℕ} (some : usable b ≡ true) where
  rows : {r : Result ℕ Refusal} → Keeps b.pack.settings store r after → first (keep_rows store) ≡ come_to r
  rows keeps = sym (come_to_giving _ _) ∙ sym (ap come_to keeps.gives)

  stored : {edition : ℕ} → Keeps b.pack.settings store (Ok edition) after
      → Stores b store (record { outcome = Done; edition = edition; board = b }) after
  unfolding shape
  stored {edition} keeps =
      subst⁻¹ (λ (n : ℕ). Stores b store (record { outcome = Done; edition = n; board = b }) after)
      (ap (λ (r : Result ℕ Refusal). result_unwrap_or r edition)
      (keeps.gives ∙ ap (λ (o : Outcome). giving o (next_edition (editions_in store))) (rows keeps)))
      (stored-by b store Done (sym (rows keeps) ∙ sym (by_rows b (shape (keep store)) some))
      (keeps.store ∙ ap (λ (o : Outcome). cond (is_done o) (kept_store store b.pack.settings) store) (rows keeps)))

  refused : {refusal : Refusal} → Keeps b.pack.settings store (Err refusal) after
      → Stores b store (record { outcome = Refused refusal; edition = 0; board = b }) after
  unfolding shape
  refused keeps =
      stored-by b store _ (sym (rows keeps) ∙ sym (by_rows b (shape (keep store)) some))
      (keeps.store ∙ ap (λ (o : Outcome). cond (is_done o) (kept_store store b.pack.settings) store) (rows keeps))

unstored : {b : Board} {store : List ℕ} {o : Outcome} → usable b ≡ false → o ≡ Refused NoBoard
    → Stores b store (record { outcome = o; edition = 0; board = b }) store
unfolding shape
unstored {b} {store} none-usable is =
    rw is (stored-by b store (Refused NoBoard) (sym (none_21 b (shape (keep store)) none-usable)) refl)

pub returns-then-is_err : goal.returns-then-is_err
returns-then-is_err c =
    let (none-usable, is) = no_board _ c.outcome-outcome.ensures (c.is_err.ensures.negation ∙ ap not c.if-is_err.true) in
    unstored none-usable is

pub returns-in-Ok : goal.returns-in-Ok
returns-in-Ok c =
    let (some, is) = some_board _ c.outcome-outcome.ensures (c.is_err.ensures.negation ∙ ap not c.if-is_err.false) in
    stored _ some (rw c.in-Ok.is at c.keep.ensures)

pub returns-in-Err : goal.returns-in-Err
returns-in-Err c =
    let (some, is) = some_board _ c.outcome-outcome.ensures (c.is_err.ensures.negation ∙ ap not c.if-is_err.false) in
    refused _ some (rw c.in-Err.is at c.keep.ensures)
