-- What firmware is told is what the board's own call answers. Assumes nothing.
use Rattle.std.specs.Prelude.{Option, Some, None}
use mathlib.Core.Bool.{true, false}
use mathlib.Core.List.{List}
use mathlib.Core.Path.{◌≡◌, sym, ap, ◌∙◌}
use Prim.Native.Nat.{ℕ}
use Rattle.refusals.specs.Refusals.{Outcome, number_of}
use Rattle.classes.specs.Store.{Tidies}
use Rattle.board.specs.declared.Board.{Board}
use Rattle.board.specs.declared.Answer.{Answer}
use Rattle.board.specs.declared.Stored.{Stored}
use Rattle.board.specs.Calls.{Call}
use Rattle.board.specs.Promises.{Leaves, Stores}
use Rattle.embedded.specs.declared.Told.{Told}
use Rattle.embedded.specs.declared.Word.{Word}
use Rattle.embedded.specs.Told.{told_of, stored_of, Tells, Kept, Tidied, word_of}

pub tells : {b : Board} {c : Call} {before after : List ℕ} {a : Answer} {r : Told} → Leaves b c before a after → r ≡ told_of a → Tells b c before r after
tells l e = record { answer = e ∙ ap told_of l.answer; lent = l.lent }

pub kept : {b : Board} {before after : List ℕ} {s : Stored} {r : Told} → Stores b before s after → r ≡ stored_of s → Kept b before r after
kept l e = record { answer = e ∙ ap stored_of l.answer; lent = l.lent }

pub tidied : {before after : List ℕ} {outcome : Outcome} {n : ℕ} → Tidies before outcome after → n ≡ number_of outcome → Tidied before n after
tidied t e = record { told = e ∙ ap number_of t.outcome_is; store = t.store }

pub some_word : {r s : Option ℕ} {value : ℕ} → r ≡ s → r ≡ Some value → ◌≡◌ {A = Word} (record { value = value; is = true }) (word_of s)
some_word e f = ap word_of (sym f ∙ e)

pub no_word : {r s : Option ℕ} → r ≡ s → r ≡ None → ◌≡◌ {A = Word} (record { value = 0; is = false }) (word_of s)
no_word e f = ap word_of (sym f ∙ e)
