-- The loop at the end of a serial line, as crate `port` defines it, loses no byte and says exactly the replies: from a usable board to
-- which nothing was offered yet, for any reads in a row, its replies are, one after the other, `frame`'s own to the frames of the whole
-- stream. Why: its turns are a cutting of the stream (RawLine), a turn on a board that holds no frame takes a byte at least, and the bytes
-- told to be a reply are the reply (`answers`, Exact). What the code lends to be written no contract ties to it: docs/PROMISES.md.
-- Assumes nothing.
use mathlib.Core.Path.{◌≡◌, refl, sym, ap, ap₂, ◌∙◌, subst, subst⁻¹}
use mathlib.Core.Bool.{Bool, true, false, ◌&&◌, cond}
use mathlib.Core.List.{List, [], ◌∷◌, ◌++◌, flatten, map, append_assoc, append-nil}
use Prim.Native.Nat.{ℕ, zero, suc, ◌+◌, ◌≤◌, ◌<◌}
use native.Mathlib.Nat.{not-suc-le-zero}
use native.Mathlib.Omega.{arith}
use lib.ListN.{length, take, drop, length-drop}
use lib.Seq.{take-append-add, drop-append-le, take_all}
use Rattle.refusals.specs.declared.Refusal.TheVariants.{FrameHeld}
use Rattle.refusals.specs.Refusals.{Outcome, Done, Refused, first}
use Rattle.receiver.specs.declared.Receiver.{Receiver}
use Rattle.receiver.specs.Receiver.{no_bytes, is_held, with_byte, taken, offered_by, offered_of}
use Rattle.receiver.specs.Line.{Turn, offers, fetches, cut, replies_to, after}
use Rattle.receiver.proofs.Through.{none_held}
use Rattle.requests.specs.Requests.{request_of}
use Rattle.replies.specs.Replies.{padded}
use Rattle.answers.specs.Answers.{accepted_reply, reply_by, asked_reply}
use Rattle.answers.proofs.Made.{reply_length}
use Rattle.board.specs.declared.Board.{Board}
use Rattle.board.specs.State.{usable, with_receiver}
use Rattle.board.specs.Line.{held_in, holds}
use Rattle.board.specs.Calls as calls
use Rattle.board.specs.Calls.{frame, offer, fetch, reply_lent, shape, outcome_of, seen_of, outcome_in, buffer_after, carried_by}
use Rattle.answers.specs.Length.{length_in}
use Rattle.answers.proofs.Exact.{padded_length, none, exact}
use Rattle.port.specs.Port.{buffer_of, turn_of, Served, turns_of, served_of}
use Rattle.facts.proofs.RawLine.{Reply, answer, Ran, replied, is_reply, runs, is_reply_lem, frame_usable, frame_whole}
use Rattle.facts.proofs.RawLine.{offered, fetch_whole, fetched_board, not_answered, any_cutting}

-- ---- what is stated

-- reads in a row: all that is said, and the board after them
abbrev pub written : Board → List (List ℕ) → List ℕ
written b [] = []
written b (bytes ∷ more) = flatten (served_of b bytes).replies ++ written (served_of b bytes).board more

abbrev pub board_after : Board → List (List ℕ) → Board
board_after b [] = b
board_after b (bytes ∷ more) = board_after (served_of b bytes).board more

-- a frame's board, and the bytes of its reply alone
abbrev pub reply_of : Board → List ℕ → Board × List ℕ
reply_of b s = (calls.board_after b (frame s 259), asked_reply b.pack b.hire s (request_of s))

pub record Serves (b : Board) (reads : List (List ℕ)) : Type 0 where
  pub replies : written b reads ≡ flatten (replies_to reply_of b (cut 0 (flatten reads)).frames)
  pub board : board_after b reads ≡ with_receiver (after reply_of b (cut 0 (flatten reads)).frames) (board_after b reads).hire.receiver
  pub held : held_in (board_after b reads) ≡ (cut 0 (flatten reads)).rest

-- ---- a turn

abbrev told : List ℕ → List ℕ
told buffer = take (length_in buffer) buffer

taken_within : (bs : List ℕ) (r : Receiver) → taken r bs ≤ length bs
taken_within [] r = omega arith
taken_within (b ∷ bs) r = go (is_held r) (taken_within bs (with_byte r b))
  where
    go : (t : Bool) → taken (with_byte r b) bs ≤ length bs → cond t 0 (suc (taken (with_byte r b) bs)) ≤ suc (length bs)
    go true h = omega arith
    go false h = omega arith

-- a buffer that the board fills has as many bytes as there is room
filled_whole : (b : Board) (s : List ℕ) → take 259 (padded 259 (reply_of b s).1) ≡ padded 259 (reply_of b s).1
filled_whole b s =
    let e = padded_length 259 (reply_of b s).1 (reply_length b.pack b.hire s) in
    take_all 259 (padded 259 (reply_of b s).1) (omega (arith, e))

abbrev heard : Board → List ℕ → Board
heard b bytes = calls.board_after b (offer bytes)

module _ (b : Board) (some : usable b ≡ true) (bytes : List ℕ) where
  within : carried_by b (offer bytes) ≤ length bytes
  unfolding offered_of first
  within =
      subst⁻¹ (λ (n : ℕ). n ≤ length bytes) (offered b bytes some).1
      (go (is_held b.hire.receiver) (taken_within bytes b.hire.receiver))
    where
      go : (t : Bool) → taken b.hire.receiver bytes ≤ length bytes
          → (offered_by (cond t (Refused FrameHeld) Done) b.hire.receiver bytes).taken ≤ length bytes
      go true h = omega arith
      go false h = h

  heard_usable : usable (heard b bytes) ≡ true
  heard_usable = ap usable (offered b bytes some).0 ∙ some

  -- a turn on a board that holds nothing takes a byte at least
  moves : holds b ≡ false → 0 < length bytes → 0 < carried_by b (offer bytes)
  unfolding offered_of first
  moves none l = subst⁻¹ (λ (n : ℕ). 0 < n) (offered b bytes some).1 (rw none (go bytes l))
    where
      go : (bytes : List ℕ) → 0 < length bytes → 0 < taken b.hire.receiver bytes
      go [] l = absurd (not-suc-le-zero l)
      go (x ∷ xs) l = rw none (omega arith)

-- the fetch: a held frame is answered and let go; where none is held nothing is said and nothing changes
module _ (h : Board) (some : usable h ≡ true) where
  said_held : holds h ≡ true
      → (is_reply (outcome_in h (fetch 259)) ≡ true) × (take 259 (buffer_after h (fetch 259)) ≡ buffer_after h (fetch 259))
  unfolding shape seen_of
  said_held e =
      let s = held_in h in
      let k = fetch_whole h h.hire.receiver some 259 refl e in
      let filled = ap (seen_of (reply_lent s 259 (accepted_reply h.pack h.hire s (request_of s)))) k in
      (ap is_reply k ∙ is_reply_lem h s, ap (take 259) filled ∙ filled_whole h s ∙ sym filled)

  said_none : holds h ≡ false → (is_reply (outcome_in h (fetch 259)) ≡ false) × (told (buffer_after h (fetch 259)) ≡ [])
  unfolding shape outcome_of first seen_of reply_by
  said_none e = (rw (some, e) refl, rw (some, e) (none 259))

  -- where none is held the board is as it was
  stays : holds h ≡ false → calls.board_after h (fetch 259) ≡ h
  stays e = (not_answered h h.hire.receiver some 259 (ap (λ (t : Bool). true && t) e)).1

  goes : holds h ≡ true → calls.board_after h (fetch 259) ≡ with_receiver (calls.board_after h (frame (held_in h) 259)) no_bytes
  goes e = fetched_board h h.hire.receiver some 259 refl e

  next_usable : usable (calls.board_after h (fetch 259)) ≡ true
  next_usable = go (holds h) refl
    where
      go : (t : Bool) → holds h ≡ t → usable (calls.board_after h (fetch 259)) ≡ true
      go true e = ap usable (goes e) ∙ frame_usable h (held_in h) 259 ∙ some
      go false e = ap usable (stays e) ∙ some

  let_go : holds (calls.board_after h (fetch 259)) ≡ false
  let_go = go (holds h) refl
    where
      go : (t : Bool) → holds h ≡ t → holds (calls.board_after h (fetch 259)) ≡ false
      go true e = ap holds (goes e) ∙ none_held
      go false e = ap holds (stays e) ∙ e

-- ---- turns as a cutting

abbrev said : Ran → List ℕ
said r = flatten (map (λ (a : Reply). told a.1) r.replies)

-- the same turns, as offers of what is left of a read, and fetches
turn_list : ℕ → Board → List ℕ → List Turn
turn_list zero b bytes = []
turn_list (suc n) b [] = []
turn_list (suc n) b (x ∷ xs) =
    offers (length (x ∷ xs)) ∷ fetches 259 ∷ turn_list n (turn_of b (x ∷ xs) 259).board (drop (turn_of b (x ∷ xs) 259).taken (x ∷ xs))

record Same (words : List ℕ) (r q : Ran) : Type 0 where
  said : said r ≡ words ++ said q
  board : r.board ≡ q.board
  left : r.left ≡ q.left

-- a fetch says its reply where it is answered, else nothing
one_fetch : (t : Bool) (o : Outcome) (bytes : List ℕ) (next : Ran) {words : List ℕ} → cond t (told bytes) [] ≡ words
    → Same words (cond t (replied (o, bytes) next) next) next
unfolding flatten
one_fetch true o bytes next e = record { said = ap (λ (l : List ℕ). l ++ said next) e; board = refl; left = refl }
one_fetch false o bytes next e = record { said = ap (λ (l : List ℕ). l ++ said next) e; board = refl; left = refl }

one_turn : (b : Board) (bytes more : List ℕ) (ts : List Turn) → usable b ≡ true
    → Same (told (buffer_of b bytes 259)) (runs (offers (length bytes) ∷ fetches 259 ∷ ts) b (bytes ++ more))
    (runs ts (turn_of b bytes 259).board (drop (turn_of b bytes 259).taken bytes ++ more))
unfolding flatten
one_turn b bytes more ts some =
    let whole : take (length bytes) (bytes ++ more) ≡ bytes =
    (let e : length bytes ≡ length bytes + 0 = omega arith in ap (λ (k : ℕ). take k (bytes ++ more)) e)
    ∙ take-append-add bytes more 0
    ∙ append-nil bytes
    in
    let rest : drop (carried_by b (offer bytes)) (bytes ++ more) ≡ drop (carried_by b (offer bytes)) bytes ++ more =
    drop-append-le _ bytes more (within b some bytes) in
    rw (whole, rest) (go (heard b bytes) (heard_usable b some bytes) (drop (carried_by b (offer bytes)) bytes ++ more))
  where
    go : (h : Board) → usable h ≡ true → (left : List ℕ)
        → Same (told (buffer_after h (fetch 259))) (runs (fetches 259 ∷ ts) h left) (runs ts (calls.board_after h (fetch 259)) left)
    go h some left =
        let o = outcome_in h (fetch 259) in
        one_fetch (is_reply o) o (take 259 (buffer_after h (fetch 259))) _ (by_held (holds h) refl)
      where
        by_held : (t : Bool) → holds h ≡ t
            → cond (is_reply (outcome_in h (fetch 259))) (told (take 259 (buffer_after h (fetch 259)))) [] ≡ told (buffer_after h (fetch 259))
        by_held true e =
            let w = said_held h some e in ap₂ (λ (t : Bool) (bytes : List ℕ). cond t (told bytes) []) w.0 w.1
        by_held false e =
            let w = said_none h some e in
            ap (λ (t : Bool). cond t (told (take 259 (buffer_after h (fetch 259)))) []) w.0 ∙ sym w.1

joined : {w v : List ℕ} {r q p : Ran} → Same w r q → Same v q p → Same (w ++ v) r p
joined {w} {v} {r} {q} {p} f g =
    record {
      said = f.said ∙ ap (λ (l : List ℕ). w ++ l) g.said ∙ sym (append_assoc w v (said p));
      board = f.board ∙ g.board;
      left = f.left ∙ g.left;
    }

turns : (n : ℕ) (b : Board) (bytes more : List ℕ) (ts : List Turn) → usable b ≡ true
    → Same (flatten (turns_of n b bytes).replies) (runs (turn_list n b bytes ++ ts) b (bytes ++ more))
    (runs ts (turns_of n b bytes).board ((turns_of n b bytes).left ++ more))
unfolding turns_of turn_list flatten
turns zero b bytes more ts some = record { said = refl; board = refl; left = refl }
turns (suc n) b [] more ts some = record { said = refl; board = refl; left = refl }
turns (suc n) b (x ∷ xs) more ts some =
    let t = turn_of b (x ∷ xs) 259 in
    let left = drop t.taken (x ∷ xs) in
    joined (one_turn b (x ∷ xs) more (turn_list n t.board left ++ ts) some)
    (turns n t.board left more ts (next_usable (heard b (x ∷ xs)) (heard_usable b some (x ∷ xs))))

-- as many turns as there are bytes take them all
record Through (s : Served) : Type 0 where
  left : s.left ≡ []
  free : holds s.board ≡ false
  usable : usable s.board ≡ true

through : (n : ℕ) (b : Board) (bytes : List ℕ) → usable b ≡ true → holds b ≡ false → length bytes ≤ n → Through (turns_of n b bytes)
unfolding turns_of
through zero b [] some free l = record { left = refl; free = free; usable = some }
through zero b (x ∷ xs) some free l = absurd (not-suc-le-zero l)
through (suc n) b [] some free l = record { left = refl; free = free; usable = some }
through (suc n) b (x ∷ xs) some free l =
    let h = heard b (x ∷ xs) in
    let ok = heard_usable b some (x ∷ xs) in
    let m = moves b some (x ∷ xs) free (omega arith) in
    let i = through n (calls.board_after h (fetch 259)) (drop (carried_by b (offer (x ∷ xs))) (x ∷ xs)) (next_usable h ok) (let_go h ok)
    (simp length-drop (omega (arith, m, l))) in
    record { left = i.left; free = i.free; usable = i.usable }

all_turns : Board → List (List ℕ) → List Turn
all_turns b [] = []
all_turns b (bytes ∷ more) = turn_list (suc (length bytes)) b bytes ++ all_turns (served_of b bytes).board more

abbrev ended : Board → Ran
ended b = record { replies = []; board = b; left = [] }

all : (reads : List (List ℕ)) (b : Board) → usable b ≡ true → holds b ≡ false
    → Same (written b reads) (runs (all_turns b reads) b (flatten reads)) (ended (board_after b reads)) × (holds (board_after b reads) ≡ false)
unfolding all_turns flatten served_of
all [] b some free = (record { said = refl; board = refl; left = refl }, free)
all (bytes ∷ more) b some free =
    let t = through (suc (length bytes)) b bytes some free (omega arith) in
    let next = (turns_of (suc (length bytes)) b bytes).board in
    let i = all more next t.usable t.free in
    (joined (rw t.left at (turns (suc (length bytes)) b bytes (flatten more) (all_turns next more) some)) i.0, i.1)

-- ---- the theorem

-- the bytes of each reply, without the zeros after it
exactly : (fs : List (List ℕ)) (b : Board) → usable b ≡ true
    → map (λ (a : Reply). told a.1) (replies_to answer b fs) ≡ replies_to reply_of b fs
unfolding shape seen_of
exactly [] b some = refl
exactly (f ∷ fs) b some =
    let filled = ap (seen_of (reply_lent f 259 (accepted_reply b.pack b.hire f (request_of f)))) (frame_whole b f 259 some refl) in
    ap₂ (λ (x : List ℕ) (xs : List (List ℕ)). x ∷ xs) (ap told filled ∙ exact b.pack b.hire f 259 (omega arith))
    (exactly fs (calls.board_after b (frame f 259)) (frame_usable b f 259 ∙ some))

same_board : (fs : List (List ℕ)) (b : Board) → after answer b fs ≡ after reply_of b fs
same_board [] b = refl
same_board (f ∷ fs) b = same_board fs (calls.board_after b (frame f 259))

pub serves : (b : Board) (reads : List (List ℕ)) → usable b ≡ true → b.hire.receiver ≡ no_bytes → Serves b reads
unfolding flatten
serves b reads some none =
    let free : holds b ≡ false = ap is_held none ∙ none_held in
    let a = all reads b some free in
    let s = a.0 in
    let whole = any_cutting (all_turns b reads) b (flatten reads) some none (s.left, ap holds s.board ∙ a.1) in
    let frames = (cut 0 (flatten reads)).frames in
    record {
      replies =
          sym (append-nil (written b reads))
          ∙ sym s.said
          ∙ ap (λ (l : List Reply). flatten (map (λ (a : Reply). told a.1) l)) whole.replies
          ∙ ap flatten (exactly frames b some);
      board =
          subst (λ (x : Board). x ≡ with_receiver (after reply_of b frames) x.hire.receiver) s.board
          (whole.board
          ∙ ap (λ (x : Board). with_receiver x (runs (all_turns b reads) b (flatten reads)).board.hire.receiver) (same_board frames b));
      held = sym (ap held_in s.board) ∙ whole.held;
    }
