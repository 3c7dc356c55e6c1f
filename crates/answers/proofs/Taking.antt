-- What is taken of a request, by what it comes to: so its reply. Assumes nothing.
use mathlib.Core.Path.{◌≡◌, refl, sym, ap, ◌∙◌}
use mathlib.Core.Bool.{false≢true}
use mathlib.Core.List.{List}
use Prim.Native.Nat.{ℕ}
use Rattle.std.specs.Prelude.{Result, is_ok, Ok, Err}
use Rattle.std.specs.Result.{result_unwrap_or}
use Rattle.refusals.specs.declared.Refusal.{Refusal}
use Rattle.refusals.specs.Refusals.{Outcome, Done, Refused, giving, come_to}
use Rattle.refusals.proofs.Rows.{come_to_giving}
use Rattle.requests.specs.Requests.{Asked, request_of}
use Rattle.replies.specs.Replies.{Filled}
use Rattle.pack.specs.declared.Pack.{Pack}
use Rattle.hire.specs.declared.Hire.{Hire}
use Rattle.answers.specs.declared.Taken.{Taken}
use Rattle.answers.specs.Answers.{accepted_reply, refused_reply, reply_by, asked_outcome, asked_settings, taking, Answers}

pub record TakenOf (p : Pack) (s : List ℕ) (x : Asked) (t : Taken) : Type 0 where
  pub asked : Ok t.asked ≡ x
  pub done : asked_outcome p s x ≡ Done
  pub settings : t.settings ≡ asked_settings p s x

pub taken_of : (p : Pack) (s : List ℕ) (x : Asked) {t : Taken} → Ok t ≡ taking p s x → TakenOf p s x t
taken_of p s (Err refusal) e = absurd (false≢true (sym (ap is_ok e)))
taken_of p s (Ok q) {t} e = go (asked_outcome p s (Ok q)) refl e
  where
    go : (o : Outcome) → asked_outcome p s (Ok q) ≡ o → Ok t ≡ giving o (record { asked = q; settings = asked_settings p s (Ok q) })
        → TakenOf p s (Ok q) t
    go (Ok done) k e =
        let same = ap (λ (r : Result Taken Refusal). result_unwrap_or r t) e in
        record { asked = ap (λ (t : Taken). Ok t.asked) same; done = k; settings = ap (λ (t : Taken). t.settings) same }
    go (Err refusal) k e = absurd (false≢true (sym (ap is_ok e)))

pub refused_with : (p : Pack) (s : List ℕ) (x : Asked) {refusal : Refusal} → Err refusal ≡ taking p s x → asked_outcome p s x ≡ Refused refusal
unfolding asked_outcome
refused_with p s (Err other) e = sym (ap come_to e)
refused_with p s (Ok q) e = sym (come_to_giving (asked_outcome p s (Ok q)) _) ∙ sym (ap come_to e)

module _ (p : Pack) (h : Hire) (s : List ℕ) {before after : List ℕ} where
  pub accepted : {t : Taken} → Ok t ≡ taking p s (request_of s) → Filled before (accepted_reply p h s (Ok t.asked)) after
      → Answers p h s before (Ok t) after
  unfolding reply_by
  accepted e filled =
      let taken = taken_of p s (request_of s) e in
      record { taken_is = e; reply_is = rw (taken.done, sym taken.asked) filled }

  pub refused : {refusal : Refusal} → Err refusal ≡ taking p s (request_of s) → Filled before (refused_reply refusal s) after
      → Answers p h s before (Err refusal) after
  unfolding reply_by
  refused e filled = record { taken_is = e; reply_is = rw (refused_with p s (request_of s) e) filled }
