-- What firmware is told of a call: the number that the caller gets, the register of a 44, what else the call gives, and the board after it.
-- Assumes nothing.
use Rattle.std.specs.Prelude.{true, false, cond, List, ◌≡◌, ℕ, Option, Some, None}
use Rattle.refusals.specs.Refusals.{Outcome, number_of, register_of, is_done, first}
use Rattle.classes.specs.Store.{tidy_rows, tidied_store}
use Rattle.board.specs.declared.Board.{Board}
use Rattle.board.specs.declared.Answer.{Answer}
use Rattle.board.specs.declared.Heard.{Heard}
use Rattle.board.specs.declared.Stored.{Stored}
use Rattle.board.specs.Calls.{Call, keep, answer_to, storing}
use Rattle.board.specs.Promises.{left_in}
use Rattle.embedded.specs.declared.Told.{Told}
use Rattle.embedded.specs.declared.Word.{Word}

abbrev pub told_by : Outcome → ℕ → Board → Told
told_by outcome more b = record { number = number_of outcome; which = register_of outcome; more = more; board = b }

-- a call that gives nothing else; an offer, how many bytes it took; a keep, the edition
abbrev pub told_of : Answer → Told
told_of answer = told_by answer.outcome 0 answer.board

abbrev pub heard_of : Heard → Told
heard_of heard = told_by heard.outcome heard.taken heard.board

abbrev pub stored_of : Stored → Told
stored_of stored = told_by stored.outcome stored.edition stored.board

-- a call that is lent a buffer, an area, a slice or a record: what it tells, and every byte of that
pub record Tells (b : Board) (c : Call) (before : List ℕ) (r : Told) (after : List ℕ) : Type 0 where
  pub answer : r ≡ told_of (answer_to b c)
  pub lent : after ≡ left_in b c before

pub record Kept (b : Board) (store : List ℕ) (r : Told) (after : List ℕ) : Type 0 where
  pub answer : r ≡ stored_of (storing b (keep store))
  pub lent : after ≡ left_in b (keep store) store

-- a store put in order: its number, and every byte; refused, nothing changed
pub record Tidied (before : List ℕ) (number : ℕ) (after : List ℕ) : Type 0 where
  pub told : number ≡ number_of (first (tidy_rows before))
  pub store : after ≡ cond (is_done (first (tidy_rows before))) (tidied_store before) before

abbrev pub word_of : Option ℕ → Word
word_of (Some value) = record { value = value; is = true }
word_of None = record { value = 0; is = false }
