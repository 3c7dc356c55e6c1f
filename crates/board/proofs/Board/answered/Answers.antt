-- What is asked is answered, and changes what it changes where it is done. Assumes nothing.
use mathlib.Core.Path.{◌≡◌, refl, sym, ap, ◌∙◌}
use mathlib.Core.Bool.{cond}
use mathlib.Core.List.{List}
use Prim.Native.Nat.{ℕ}
use Rattle.std.specs.Prelude.{Ok, Err}
use Rattle.refusals.specs.declared.Refusal.{Refusal}
use Rattle.refusals.specs.Refusals.{Outcome, Done, Refused, is_done}
use Rattle.requests.specs.Requests.{Asked, request_of}
use Rattle.answers.specs.declared.Taken.{Taken}
use Rattle.answers.specs.Answers as answers
use Rattle.answers.proofs.Taking.{taken_of, refused_with}
use Rattle.board.specs.declared.Answer.{Answer}
use Rattle.board.specs.declared.Board.{Board}
use Rattle.board.specs.Changes.{changed_by}
use Rattle.board.specs.Promises.{request_answer, Changed, Answered}
use Rattle.board.proofs.Board.answered.Goals as goal

module _ (b : Board) (s : List ℕ) where
  by_outcome : {o : Outcome} {x : Board} → o ≡ answers.asked_outcome b.pack s (request_of s)
      → x ≡ cond (is_done o) (changed_by b s (request_of s)) b → record { outcome = o; board = x } ≡ request_answer b s
  by_outcome {x = x} e f =
      λ i. record { outcome = e i; board = (f ∙ ap (λ (o : Outcome). cond (is_done o) (changed_by b s (request_of s)) b) e) i }

  taken : {before after : List ℕ} {r : Answer} {t : Taken} {x : Board} → answers.Answers b.pack b.hire s before (Ok t) after → Changed b (Ok t.asked) t.settings x
      → r ≡ record { outcome = Done; board = x } → Answered b s before r after
  taken told changes p =
      let taken = taken_of b.pack s (request_of s) told.taken_is in
      record {
        answer = p
            ∙ by_outcome (sym taken.done)
            (changes.changed s (taken.settings ∙ ap (answers.asked_settings b.pack s) (sym taken.asked))
            ∙ ap (changed_by b s) taken.asked);
        reply = told.reply_is;
      }

  refused : {before after : List ℕ} {r : Answer} {refusal : Refusal} → answers.Answers b.pack b.hire s before (Err refusal) after
      → r ≡ record { outcome = Refused refusal; board = b } → Answered b s before r after
  refused told p =
      record { answer = p ∙ by_outcome (sym (refused_with b.pack s (request_of s) told.taken_is)) refl; reply = told.reply_is }

pub returns-in-Ok : goal.returns-in-Ok
returns-in-Ok c = taken _ _ (rw c.in-Ok.is at c.answer.ensures) c.changed.ensures c.with_outcome.ensures

pub returns-in-Err : goal.returns-in-Err
returns-in-Err c = refused _ _ (rw c.in-Err.is at c.answer.ensures) c.with_outcome-in-Err.ensures
