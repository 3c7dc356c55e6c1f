-- Every call but an offer and a fetch neither looks at what is held of the raw line nor touches it (a handover drops it): so calls that are
-- none of the line's are answered alike, whatever is held; and an offer changes nothing else, so once what was heard is let go no offer
-- shows. Assumes nothing.
use Rattle.std.specs.Prelude.{Err, Ok}
use mathlib.Core.Path.{◌≡◌, refl, sym, ap, ◌∙◌}
use mathlib.Core.Bool.{Bool, true, false, not, cond, false≢true}
use mathlib.Core.List.{List, [], ◌∷◌}
use Prim.Native.Nat.{ℕ}
use Rattle.refusals.specs.declared.Refusal.{Refusal}
use Rattle.refusals.specs.declared.Refusal.TheVariants.{NoBoard}
use Rattle.refusals.specs.Refusals.{Outcome, is_done, first}
use Rattle.hire.specs.Hire.{new_hire}
use Rattle.hire.specs.Registers.{reading_register}
use Rattle.receiver.specs.declared.Receiver.{Receiver}
use Rattle.receiver.specs.Receiver.{no_bytes}
use Rattle.requests.specs.declared.Query.{Query}
use Rattle.requests.specs.declared.Query.TheVariants.{Registers, Listed, Bare, NewEvents, AllEvents, Temperatures, Cells, SettingsOf}
use Rattle.requests.specs.declared.Request.TheVariants as request
use Rattle.requests.specs.Requests.{request_of, Asked}
use Rattle.replies.specs.Replies.{sealed}
use Rattle.answers.specs.Registers.{shown_at, value_at}
use Rattle.answers.specs.Answers.{body_by, body_of, accepted_reply}
use Rattle.board.specs.declared.Board.{Board}
use Rattle.board.specs.State.{usable, with_receiver}
use Rattle.board.specs.Handover.{handed_over}
use Rattle.board.specs.Line.{let_go}
use Rattle.board.specs.Changes.{changed_by}
use Rattle.board.specs.Calls.{Call, tick, frame, handover, offer, fetch, save, load, cabinet, keep, recall}
use Rattle.board.specs.Calls.{Seen, seen, reply_lent, Shape, shape, outcome_of}
use Rattle.board.specs.Calls.{lets_go, board_by, seen_of, outcome_in, board_after, step}
use Rattle.board.specs.Behaviour.{board, after_in, answers_in}
use Rattle.board.specs.Demands.{off_the_line, fetchless, without_line}
use Rattle.board.proofs.Shape.{holds_on}
use Rattle.board.proofs.Opened.{steps}

module _ (b : Board) (r : Receiver) where
  -- ---- a frame

  bodies : (s : List ℕ) (q : Query) → body_of b.pack (with_receiver b r).hire s q ≡ body_of b.pack b.hire s q
  unfolding value_at shown_at reading_register body_by
  bodies s (Registers command at n) = refl
  bodies s (Listed n) = refl
  bodies s (Bare command at n) = refl
  bodies s NewEvents = refl
  bodies s AllEvents = refl
  bodies s Temperatures = refl
  bodies s Cells = refl
  bodies s (SettingsOf kind n) = refl

  pub request_reply : (s : List ℕ) (q : Asked)
      → accepted_reply b.pack (with_receiver b r).hire s q ≡ accepted_reply b.pack b.hire s q
  unfolding accepted_reply
  request_reply s (Err refusal) = refl
  request_reply s (Ok request.ClearEvents) = refl
  request_reply s (Ok request.ClearStatistics) = refl
  request_reply s (Ok (request.Write f n)) = refl
  request_reply s (Ok (request.Read q)) = ap sealed (bodies s q)

  pub request_changes : (s : List ℕ) (q : Asked) → changed_by (with_receiver b r) s q ≡ with_receiver (changed_by b s q) r
  unfolding changed_by
  request_changes s (Err refusal) = refl
  request_changes s (Ok request.ClearEvents) = refl
  request_changes s (Ok request.ClearStatistics) = refl
  request_changes s (Ok (request.Write f n)) = refl
  request_changes s (Ok (request.Read q)) = refl

  -- ---- any call that is none of the line's: its shape is the same, but for what is held of the board after it

  record Same (c : Shape) : Type 0 where
    fetches : c.fetches ≡ false
    rows : c.rows (with_receiver b r) ≡ c.rows b
    lent : c.lent (with_receiver b r) ≡ c.lent b
    carries : c.carries (with_receiver b r) ≡ c.carries b
    held : Receiver
    none : r ≡ no_bytes → held ≡ no_bytes
    done : c.done (with_receiver b r) ≡ with_receiver (c.done b) held

  same : (c : Call) → (shape c).on_line ≡ false → Same (shape c)
  unfolding shape steps handed_over new_hire
  same (tick cells rd) e = record { fetches = refl; rows = refl; lent = refl; carries = refl; held = r; none = λ e. e; done = refl }
  same (frame s room) e =
      record {
        fetches = refl;
        rows = refl;
        lent = ap (reply_lent s room) (request_reply s (request_of s));
        carries = refl;
        held = r;
        none = λ e. e;
        done = request_changes s (request_of s);
      }
  same (handover number n) e =
      record { fetches = refl; rows = refl; lent = refl; carries = refl; held = no_bytes; none = λ e. refl; done = refl }
  same (offer bytes) e = absurd (false≢true (sym e))
  same (fetch room) e = absurd (false≢true (sym e))
  same (save n) e = record { fetches = refl; rows = refl; lent = refl; carries = refl; held = r; none = λ e. e; done = refl }
  same (load area) e = record { fetches = refl; rows = refl; lent = refl; carries = refl; held = r; none = λ e. e; done = refl }
  same (cabinet n) e = record { fetches = refl; rows = refl; lent = refl; carries = refl; held = r; none = λ e. e; done = refl }
  same (keep store) e = record { fetches = refl; rows = refl; lent = refl; carries = refl; held = r; none = λ e. e; done = refl }
  same (recall store edition) e = record { fetches = refl; rows = refl; lent = refl; carries = refl; held = r; none = λ e. e; done = refl }

  module _ (c : Call) (so : Same (shape c)) where
    outcome : outcome_in (with_receiver b r) c ≡ outcome_in b c
    unfolding outcome_of
    outcome = ap (λ (rows : List (Refusal × Bool)). first ((NoBoard, not (usable b)) ∷ rows)) so.rows

    after : Receiver
    after = cond (is_done (outcome_in b c)) so.held r

    boards : board_after (with_receiver b r) c ≡ with_receiver (board_after b c) after
    unfolding board_by after
    boards =
        ap (board_by (with_receiver b r) (shape c)) outcome
        ∙ ap (λ (t : Bool). cond (is_done o) ((shape c).done (with_receiver b r)) (cond t (let_go (with_receiver b r)) (with_receiver b r))) off
        ∙ go (is_done o)
        ∙ ap (λ (t : Bool). with_receiver (cond (is_done o) ((shape c).done b) (cond t (let_go b) b)) (cond (is_done o) so.held r)) (sym off)
      where
        o : Outcome
        o = outcome_in b c

        off : lets_go (shape c) o ≡ false
        off = holds_on b (shape c) o so.fetches

        go : (t : Bool)
            → cond t ((shape c).done (with_receiver b r)) (with_receiver b r) ≡ with_receiver (cond t ((shape c).done b) b) (cond t so.held r)
        go true = so.done
        go false = refl

    stepped : step (with_receiver b r) c ≡ (with_receiver (step b c).0 after, (step b c).1)
    stepped =
        λ i. (boards i, seen (boards i) (outcome i) (seen_of (so.lent i) (outcome i)) (cond (is_done (outcome i)) (so.carries i) 0))

-- ---- any calls that are none of the line's

pub alike : (b : Board) (r : Receiver) (cs : List Call) → off_the_line cs ≡ true
    → answers_in board (with_receiver b r) cs ≡ answers_in board b cs
unfolding answers_in
alike b r [] e = refl
alike b r (c ∷ cs) e = go (shape c).on_line refl e (λ x q. alike (step b c).0 x cs q)
  where
    go : (t : Bool) → (shape c).on_line ≡ t → cond t false (off_the_line cs) ≡ true
        → ((x : Receiver) → off_the_line cs ≡ true → answers_in board (with_receiver (step b c).0 x) cs ≡ answers_in board (step b c).0 cs)
        → answers_in board (with_receiver b r) (c ∷ cs) ≡ answers_in board b (c ∷ cs)
    go true e f later = absurd (false≢true f)
    go false e f later =
        let so = same b r c e in
        ap (λ (p : Board × Seen). p.1 ∷ answers_in board p.0 cs) (stepped b r c so)
        ∙ ap (λ (l : List Seen). (step b c).1 ∷ l) (later (after b r c so) f)

-- ---- what was heard is let go

-- a call that is none of the line's
silent : (b : Board) (c : Call) → (shape c).on_line ≡ false → let_go (board_after b c) ≡ board_after (let_go b) c
unfolding after
silent b c e =
    let so = same b no_bytes c e in
    sym (boards b no_bytes c so ∙ ap (with_receiver (board_after b c)) (go (is_done (outcome_in b c)) so.held (so.none refl)))
  where
    go : (t : Bool) (held : Receiver) → held ≡ no_bytes → cond t held no_bytes ≡ no_bytes
    go true held e = e
    go false held e = refl

-- an offer
unheard : (b : Board) (bytes : List ℕ) → let_go (board_after b (offer bytes)) ≡ let_go b
unfolding shape board_by
unheard b bytes = go (is_done (outcome_in b (offer bytes))) (lets_go (shape (offer bytes)) (outcome_in b (offer bytes)))
  where
    go : (t u : Bool) → let_go (cond t ((shape (offer bytes)).done b) (cond u (let_go b) b)) ≡ let_go b
    go true u = refl
    go false true = refl
    go false false = refl

-- any calls by which no frame is fetched
pub all_let_go : (b : Board) (cs : List Call) → fetchless cs ≡ true
    → let_go (after_in board b cs) ≡ after_in board (let_go b) (without_line cs)
unfolding after_in shape
all_let_go b [] e = refl
all_let_go b (c ∷ cs) e = go c (shape c).fetches refl (shape c).on_line refl e (λ q. all_let_go (step b c).0 cs q)
  where
    go : (c : Call) (f : Bool) → (shape c).fetches ≡ f → (t : Bool) → (shape c).on_line ≡ t → cond f false (fetchless cs) ≡ true
        → (fetchless cs ≡ true → let_go (after_in board (step b c).0 cs) ≡ after_in board (let_go (step b c).0) (without_line cs))
        → let_go (after_in board (step b c).0 cs) ≡ after_in board (let_go b) (cond t (without_line cs) (c ∷ without_line cs))
    go c true f t o e later = absurd (false≢true e)
    go c false f false o e later = later e ∙ ap (λ (x : Board). after_in board x (without_line cs)) (silent b c o)
    go (tick cells r) false f true o e later = absurd (false≢true o)
    go (frame s room) false f true o e later = absurd (false≢true o)
    go (handover number n) false f true o e later = absurd (false≢true o)
    go (offer bytes) false f true o e later = later e ∙ ap (λ (x : Board). after_in board x (without_line cs)) (unheard b bytes)
    go (fetch room) false f true o e later = absurd (false≢true (sym f))
    go (save n) false f true o e later = absurd (false≢true o)
    go (load area) false f true o e later = absurd (false≢true o)
    go (cabinet n) false f true o e later = absurd (false≢true o)
    go (keep store) false f true o e later = absurd (false≢true o)
    go (recall store edition) false f true o e later = absurd (false≢true o)
