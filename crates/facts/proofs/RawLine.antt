-- W-201: any cutting of the same bytes gives the same replies and end state, if only offers and fetches come between, each held frame is
-- fetched with room, and bytes not taken are offered again; and they are those of the stream cut into frames all at once, each answered as
-- `frame` answers it. Why: crate `receiver` has it of any board beside a receiver, and our board's frames neither look at its receiver nor
-- touch it.
-- Assumes nothing.
use mathlib.Core.Path.{◌≡◌, refl, sym, ap, ap₂, ◌∙◌, subst, subst⁻¹}
use mathlib.Core.Bool.{Bool, true, false, ◌&&◌, ◌||◌, not, cond, false≢true}
use mathlib.Core.List.{List, [], ◌∷◌, ◌++◌, flatten}
use Prim.Native.Nat.{ℕ, zero, suc, ◌+◌, ◌-◌, ◌≤◌}
use native.Mathlib.Nat.{not-suc-le-zero}
use native.Mathlib.Omega.{arith}
use borrow.Author.Tests.{ltb-false}
use lib.Dec.{ltb}
use lib.ListN.{length, take, drop, replicate}
use lib.Seq.{take-append-add}
use Rattle.refusals.specs.declared.Refusal.TheVariants.{NoRoom, FrameHeld, NoFrameHeld}
use Rattle.refusals.specs.Refusals.{Outcome, Done, Refused, is_done, first}
use Rattle.std.specs.Prelude.{Ok, Err}
use Rattle.refusals.proofs.Rows.{refused_not}
use Rattle.receiver.specs.declared.Receiver.{Receiver}
use Rattle.receiver.specs.Receiver.{no_bytes, held_of, is_held, taken, offered_by, offered_of}
use Rattle.receiver.specs.Line.{cut, replies_to, after, Turn, offers, fetches, Line, heard, ran}
use Rattle.receiver.specs.Line as line
use Rattle.receiver.proofs.Cutting.{Good, whole_frames}
use Rattle.receiver.proofs.Cutting as cutting
use Rattle.requests.specs.declared.Request.TheVariants as request
use Rattle.requests.specs.Requests.{request_of, Asked}
use Rattle.replies.specs.Replies.{padded}
use Rattle.answers.specs.Answers.{accepted_reply, asked_reply}
use Rattle.answers.proofs.Made.{reply_length}
use Rattle.board.specs.declared.Board.{Board}
use Rattle.board.specs.State.{usable, with_receiver}
use Rattle.board.specs.Changes.{changed_by}
use Rattle.board.specs.Line.{held_in, holds, let_go}
use Rattle.board.specs.Promises.{request_outcome}
use Rattle.board.specs.Calls.{frame, offer, fetch, reply_lent, frame_rows, shape, outcome_of, lost, lets_go, board_by, seen_of}
use Rattle.board.specs.Calls.{outcome_in, board_after, buffer_after, carried_by, step}
use Rattle.board.proofs.Asked.{by_table, request_lost}
use Rattle.board.proofs.Deaf.{request_reply, request_changes}

-- ---- the board at the end of a raw line

-- a reply: what the request came to, and the first 259 bytes of the buffer, behind which zeros are
abbrev pub Reply : Type 0
Reply = Outcome × List ℕ

-- `frame`'s own
abbrev pub answer : Board → List ℕ → Board × Reply
answer b s = (board_after b (frame s 259), (outcome_in b (frame s 259), buffer_after b (frame s 259)))

-- the replies that came, oldest first; the board, and the bytes not yet taken
pub record Ran : Type 0 where
  pub replies : List Reply
  pub board : Board
  pub left : List ℕ

abbrev pub replied : Reply → Ran → Ran
replied a r = record { replies = a ∷ r.replies; board = r.board; left = r.left }

-- a fetch is answered if it is done or the held frame is let go: not after 1, 7 or 21
abbrev pub is_reply : Outcome → Bool
is_reply outcome = is_done outcome || lost outcome

-- offers of the next n of the bytes that are not yet taken, and fetches with a buffer of n bytes
abbrev pub runs : List Turn → Board → List ℕ → Ran
runs [] b left = record { replies = []; board = b; left = left }
runs (offers n ∷ ts) b left = runs ts (step b (offer (take n left))).0 (drop (step b (offer (take n left))).1.carried left)
runs (fetches n ∷ ts) b left =
    cond (is_reply (step b (fetch n)).1.outcome)
    (replied ((step b (fetch n)).1.outcome, take 259 (step b (fetch n)).1.buffer) (runs ts (step b (fetch n)).0 left))
    (runs ts (step b (fetch n)).0 left)

-- every byte is taken, and no frame is held
abbrev pub Ended : Ran → Type 0
Ended r = (r.left ≡ []) × (holds r.board ≡ false)

-- ---- a frame with more room

zeros : (k m : ℕ) → k ≤ m → take {A = ℕ} k (replicate m 0) ≡ replicate k 0
zeros zero m h = refl
zeros (suc k) zero h = absurd (not-suc-le-zero h)
zeros (suc k) (suc m) h = ap (λ (l : List ℕ). 0 ∷ l) (zeros k m (omega arith))

fits : (n : ℕ) (xs : List ℕ) → length xs ≤ 259 → 259 ≤ n → take 259 (padded n xs) ≡ padded 259 xs
unfolding padded
fits n xs h l =
    let e : 259 ≡ length xs + (259 - length xs) = omega arith in
    ap (λ (k : ℕ). take k (xs ++ replicate (n - length xs) 0)) e
    ∙ take-append-add xs (replicate (n - length xs) 0) (259 - length xs)
    ∙ ap (λ (l : List ℕ). xs ++ l) (zeros (259 - length xs) (n - length xs) (omega arith))

pub is_reply_lem : (b : Board) (s : List ℕ) → is_reply (request_outcome b s) ≡ true
is_reply_lem b s = go (request_outcome b s) (request_lost b s)
  where
    go : (o : Outcome) → ((o ≡ Done → ⊥) → lost o ≡ true) → is_reply o ≡ true
    go (Ok done) l = refl
    go (Err refusal) l = l (refused_not refusal)

-- a board stays usable
changed_usable : (b : Board) (s : List ℕ) (q : Asked) → usable (changed_by b s q) ≡ usable b
unfolding changed_by
changed_usable b s (Err refusal) = refl
changed_usable b s (Ok request.ClearEvents) = refl
changed_usable b s (Ok request.ClearStatistics) = refl
changed_usable b s (Ok (request.Write f n)) = refl
changed_usable b s (Ok (request.Read q)) = refl

pub frame_usable : (b : Board) (s : List ℕ) (room : ℕ) → usable (board_after b (frame s room)) ≡ usable b
unfolding shape board_by
frame_usable b s room = go (is_done (outcome_in b (frame s room))) (lets_go (shape (frame s room)) (outcome_in b (frame s room)))
  where
    go : (t u : Bool) → usable (cond t (changed_by b s (request_of s)) (cond u (let_go b) b)) ≡ usable b
    go true u = changed_usable b s (request_of s)
    go false true = refl
    go false false = refl

-- ---- the board with its receiver, and the same apart from it

abbrev joined : Line Board Reply → Ran
joined l = record { replies = l.replies; board = with_receiver l.state l.receiver; left = l.left }

-- a frame with room comes to what its request does
pub frame_whole : (b : Board) (s : List ℕ) (room : ℕ) → usable b ≡ true → ltb room 259 ≡ false
    → outcome_in b (frame s room) ≡ request_outcome b s
unfolding shape outcome_of first
frame_whole b s room some e = rw (some, e) (sym (by_table b s))

-- a fetch of a usable board that holds a frame, with room
module _ (b : Board) (r : Receiver) (some : usable b ≡ true) (n : ℕ) (room : ltb n 259 ≡ false) (held : is_held r ≡ true) where
  abbrev s : List ℕ
  s = held_of r

  pub fetch_whole : outcome_in (with_receiver b r) (fetch n) ≡ request_outcome b (held_of r)
  unfolding shape outcome_of first
  fetch_whole = rw (some, room, held) (sym (by_table b s))

  fetched_outcome : outcome_in (with_receiver b r) (fetch n) ≡ outcome_in b (frame (held_of r) 259)
  fetched_outcome = fetch_whole ∙ sym (frame_whole b s 259 some refl)

  pub fetched_board : board_after (with_receiver b r) (fetch n) ≡ with_receiver (board_after b (frame (held_of r) 259)) no_bytes
  unfolding shape board_by
  fetched_board =
      ap (board_by (with_receiver b r) (shape (fetch n))) fetch_whole
      ∙ go (request_outcome b s) (request_lost b s)
      ∙ ap (λ (o : Outcome). with_receiver (board_by b (shape (frame s 259)) o) no_bytes) (sym (frame_whole b s 259 some refl))
    where
      go : (o : Outcome) → ((o ≡ Done → ⊥) → lost o ≡ true)
          → board_by (with_receiver b r) (shape (fetch n)) o ≡ with_receiver (board_by b (shape (frame (held_of r) 259)) o) no_bytes
      go (Ok done) l = ap let_go (request_changes b r s (request_of s))
      go (Err refusal) l = rw (l (refused_not refusal)) refl

  fetched_reply : take 259 (buffer_after (with_receiver b r) (fetch n)) ≡ buffer_after b (frame (held_of r) 259)
  unfolding shape seen_of
  fetched_reply =
      ap₂ (λ (l : List ℕ) (o : Outcome). take 259 (seen_of (reply_lent s n l) o)) (request_reply b r s (request_of s)) fetch_whole
      ∙ fits n (asked_reply b.pack b.hire s (request_of s)) (reply_length b.pack b.hire s) (ltb-false n 259 room)
      ∙ ap (seen_of (reply_lent s 259 (accepted_reply b.pack b.hire s (request_of s)))) (sym (frame_whole b s 259 some refl))

  fetched_replies : is_reply (outcome_in (with_receiver b r) (fetch n)) ≡ true
  fetched_replies = ap is_reply fetch_whole ∙ is_reply_lem b s

-- an offer, and a fetch that is refused, of a usable board
pub offered : (b : Board) (bytes : List ℕ) → usable b ≡ true
    → (board_after b (offer bytes) ≡ with_receiver b (offered_of b.hire.receiver bytes).receiver)
    × (carried_by b (offer bytes) ≡ (offered_of b.hire.receiver bytes).taken)
unfolding shape outcome_of first board_by offered_of
offered b bytes some = rw some (go (is_held r))
  where
    r : Receiver
    r = b.hire.receiver

    o : Bool → Outcome
    o t = cond t (Refused FrameHeld) Done

    go : (t : Bool) → (board_by b (shape (offer bytes)) (o t) ≡ with_receiver b (offered_by (o t) r bytes).receiver)
        × (cond (is_done (o t)) (taken r bytes) 0 ≡ (offered_by (o t) r bytes).taken)
    go true = (refl, refl)
    go false = (refl, refl)

module _ (b : Board) (r : Receiver) (some : usable b ≡ true) where
  pub not_answered : (n : ℕ) → line.answers r n ≡ false
      → (is_reply (outcome_in (with_receiver b r) (fetch n)) ≡ false) × (board_after (with_receiver b r) (fetch n) ≡ with_receiver b r)
  unfolding shape outcome_of first board_by
  not_answered n e = rw some (go (ltb n 259) (is_held r) e)
    where
      o : Bool → Bool → Outcome
      o u v = first ((NoRoom, u) ∷ (NoFrameHeld, not v) ∷ frame_rows (with_receiver b r) (held_of r))

      go : (u v : Bool) → (not u && v) ≡ false
          → (is_reply (o u v) ≡ false) × (board_by (with_receiver b r) (shape (fetch n)) (o u v) ≡ with_receiver b r)
      go true v e = (refl, refl)
      go false true e = absurd (false≢true (sym e))
      go false false e = (refl, refl)

same_run : (ts : List Turn) (b : Board) (r : Receiver) (left : List ℕ) → usable b ≡ true
    → runs ts (with_receiver b r) left ≡ joined (ran answer ts b r left)
same_run [] b r left some = refl
same_run (offers n ∷ ts) b r left some =
    let o = offered (with_receiver b r) (take n left) some in
    ap₂ (λ (x : Board) (k : ℕ). runs ts x (drop k left)) o.0 o.1
    ∙ same_run ts b (offered_of r (take n left)).receiver (drop (offered_of r (take n left)).taken left) some
same_run (fetches n ∷ ts) b r left some =
    go (ltb n 259) refl (is_held r) refl (same_run ts b r left some)
    (same_run ts (board_after b (frame (held_of r) 259)) no_bytes left (frame_usable b (held_of r) 259 ∙ some))
  where
    s : List ℕ
    s = held_of r

    turn : Bool → Reply → Board → Ran
    turn t a x = cond t (replied a (runs ts x left)) (runs ts x left)

    fetched : Reply
    fetched = (outcome_in (with_receiver b r) (fetch n), take 259 (buffer_after (with_receiver b r) (fetch n)))

    here : Ran
    here = turn (is_reply (outcome_in (with_receiver b r) (fetch n))) fetched (board_after (with_receiver b r) (fetch n))

    there : Bool → Ran
    there t = joined (cond t (heard (answer b s).1 (ran answer ts (board_after b (frame s 259)) no_bytes left)) (ran answer ts b r left))

    refusal : (not (ltb n 259) && is_held r) ≡ false → runs ts (with_receiver b r) left ≡ joined (ran answer ts b r left)
        → here ≡ there (not (ltb n 259) && is_held r)
    refusal k i =
        let w = not_answered b r some n k in
        ap₂ (λ (t : Bool) (x : Board). turn t fetched x) w.0 w.1 ∙ i ∙ sym (ap there k)

    go : (u : Bool) → ltb n 259 ≡ u → (v : Bool) → is_held r ≡ v
        → runs ts (with_receiver b r) left ≡ joined (ran answer ts b r left)
        → runs ts (with_receiver (board_after b (frame s 259)) no_bytes) left
        ≡ joined (ran answer ts (board_after b (frame s 259)) no_bytes left)
        → here ≡ there (not (ltb n 259) && is_held r)
    go true d v e i j = refusal (ap (λ (x : Bool). not x && is_held r) d) i
    go false d false e i j = refusal (ap₂ (λ (x y : Bool). not x && y) d e) i
    go false d true e i j =
        (λ k. turn (fetched_replies b r some n d e k) (fetched_outcome b r some n d e k, fetched_reply b r some n d e k)
        (fetched_board b r some n d e k))
        ∙ ap (replied (answer b s).1) j
        ∙ sym (ap there (ap₂ (λ (x y : Bool). not x && y) d e))

-- ---- the theorems

-- from any usable board on, two cuttings that end agree in everything: the replies, and the board with what it holds
pub two_cuttings : (ts others : List Turn) (b : Board) (bytes : List ℕ) → usable b ≡ true
    → Ended (runs ts b bytes) → Ended (runs others b bytes) → runs ts b bytes ≡ runs others b bytes
two_cuttings ts others b bytes some e f =
    let r = b.hire.receiver in
    let p : runs ts b bytes ≡ joined (ran answer ts b r bytes) = same_run ts b r bytes some in
    let q : runs others b bytes ≡ joined (ran answer others b r bytes) = same_run others b r bytes some in
    p ∙ ap joined (cutting.two_cuttings answer ts others b r bytes (subst Ended p e) (subst Ended q f)) ∙ sym q

-- from a usable board that holds nothing on, every cutting that ends gives what the whole stream gives
pub record Whole (b : Board) (bytes : List ℕ) (r : Ran) : Type 0 where
  pub replies : r.replies ≡ replies_to answer b (cut 0 bytes).frames
  pub board : r.board ≡ with_receiver (after answer b (cut 0 bytes).frames) r.board.hire.receiver
  pub held : held_in r.board ≡ (cut 0 bytes).rest

pub any_cutting : (ts : List Turn) (b : Board) (bytes : List ℕ) → usable b ≡ true → b.hire.receiver ≡ no_bytes
    → Ended (runs ts b bytes) → Whole b bytes (runs ts b bytes)
any_cutting ts b bytes some none e =
    let p : runs ts b bytes ≡ joined (ran answer ts b no_bytes bytes) =
    ap (λ (r : Receiver). runs ts (with_receiver b r) bytes) none ∙ same_run ts b no_bytes bytes some in
    let served = cutting.any_cutting answer ts b bytes (subst Ended p e) in
    subst⁻¹ (Whole b bytes) p
    (record {
      replies = served.replies;
      board = ap (λ (x : Board). with_receiver x (ran answer ts b no_bytes bytes).receiver) served.state;
      held = served.held;
    })

-- a stream of whole frames gives exactly `frame`'s replies in order
pub whole_stream : (fs : List (List ℕ)) → Good fs → (ts : List Turn) (b : Board) → usable b ≡ true → b.hire.receiver ≡ no_bytes
    → Ended (runs ts b (flatten fs)) → (runs ts b (flatten fs)).replies ≡ replies_to answer b fs
whole_stream fs good ts b some none e =
    (any_cutting ts b (flatten fs) some none e).replies ∙ ap (replies_to answer b) (whole_frames fs good).0
