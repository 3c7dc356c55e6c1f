-- The board as it is called. Each call has one shape: the rows of its refusals, the board after it where none applies, what it leaves in
-- what was lent, and what it adds to the history. A call is made of its shape, once for all: it comes to the first row that applies; the
-- board is that of a call that is done, or as it was. Assumes nothing.
use Rattle.std.specs.Prelude.{Bool, true, false, ◌&&◌, ◌||◌, not, cond, List, [], ◌∷◌, ◌++◌, ℕ, eqb, ltb, length, take, Option, None, Some}
use Rattle.std.specs.Prelude.{Ok, Err}
use Rattle.refusals.specs.declared.Refusal.{Refusal}
use Rattle.refusals.specs.declared.Refusal.TheVariants.{NoRoom, FrameHeld, NoFrameHeld, NoBoard}
use Rattle.refusals.specs.Refusals.{Outcome, Done, Refused, refusal_number, left_by, is_done, first}
use Rattle.events.specs.Area.{save_rows, load_rows, area_of, events_in, list_of}
use Rattle.cabinet.specs.Cabinet.{cabinet_rows, filled_of}
use Rattle.classes.specs.Store.{editions_in, keep_rows, kept_store, recall_rows, pairs_for}
use Rattle.desk.specs.Desk.{record_rows, record_bytes}
use Rattle.editions.specs.Editions.{next_edition}
use Rattle.readings.specs.declared.Readings.{Readings}
use Rattle.readings.specs.Readings.{tick_rows}
use Rattle.receiver.specs.Receiver.{taken, filled}
use Rattle.requests.specs.Requests.{request_rows, request_of}
use Rattle.replies.specs.Replies.{padded}
use Rattle.answers.specs.Answers.{accepted_reply, asked_rows, reply_by}
use Rattle.board.specs.declared.Board.{Board}
use Rattle.board.specs.declared.Answer.{Answer}
use Rattle.board.specs.declared.Heard.{Heard}
use Rattle.board.specs.declared.Stored.{Stored}
use Rattle.board.specs.State.{usable, with_events, with_receiver, measured_in}
use Rattle.board.specs.Tick.{ticked_of}
use Rattle.board.specs.Changes.{written, changed_by, asked_deeds}
use Rattle.board.specs.Line.{held_in, holds, let_go}
use Rattle.board.specs.Handover.{record_for, handed_over}
use Rattle.board.specs.Deeds.{Deed, took, wrote, handed, heard, fetched, loaded}

-- the calls after a start: a tick (cells and the other readings), a frame (its bytes, and the length of the reply buffer that is lent), and
-- a handover (the desk's pack number, and the length of the record that is lent); of the raw line, an offer (its bytes) and a fetch (the
-- length of the reply buffer that is lent); of the pack's memory, a save (the length of the area that is lent) and a load (the area); for a
-- partner's cabinet, the length of the slice that is lent; of hire classes, a keep (the store that is lent) and a recall (the store, and an
-- edition)
pub data Call : Type 0 where
  tick : List ℕ → Readings → Call
  frame : List ℕ → ℕ → Call
  handover : ℕ → ℕ → Call
  offer : List ℕ → Call
  fetch : ℕ → Call
  save : ℕ → Call
  load : List ℕ → Call
  cabinet : ℕ → Call
  keep : List ℕ → Call
  recall : List ℕ → ℕ → Call

-- ---- the shape of a call

-- what is lent, and what a call that is done leaves there: nothing; a buffer of that room for the reply to the request s, and the reply
-- before its zeros; an area, a slice or a record, which a refused call does not write
pub data Lent : Type 0 where
  nothing_lent : Lent
  reply_lent : (s : List ℕ) (room : ℕ) (reply : List ℕ) → Lent
  area_lent : (area : List ℕ) → Lent

pub record Shape : Type 0 where
  -- its refusals, each with whether it applies, the lowest number first; 21 stands before them all
  pub rows : Board → List (Refusal × Bool)
  -- the board after it, where none applies
  pub done : Board → Board
  -- what it leaves in what is lent
  pub lent : Board → Lent
  -- what its answer carries besides: how many bytes an offer took, the edition under which settings are kept
  pub carries : Board → ℕ
  -- what it adds to a history, the newest first
  pub deeds : Board → List Deed
  -- one of the raw line's
  pub on_line : Bool
  -- it answers the held frame
  pub fetches : Bool

-- a call that is lent nothing; one that is lent an area, a slice or a record; and one of these that changes nothing
abbrev pub plain : (Board → List (Refusal × Bool)) → (Board → Board) → (Board → List Deed) → Shape
plain rows done deeds =
    record { rows = rows; done = done; lent = λ b. nothing_lent; carries = λ b. 0; deeds = deeds; on_line = false; fetches = false }

abbrev pub writing : (Board → List (Refusal × Bool)) → (Board → List ℕ) → (Board → Board) → (Board → List Deed) → Shape
writing rows area done deeds =
    record { rows = rows; done = done; lent = λ b. area_lent (area b); carries = λ b. 0; deeds = deeds; on_line = false; fetches = false }

abbrev pub showing : (Board → List (Refusal × Bool)) → (Board → List ℕ) → Shape
showing rows area = writing rows area (λ b. b) (λ b. [])

-- the rows of a request: those of its bytes, and of what it asks
abbrev pub frame_rows : Board → List ℕ → List (Refusal × Bool)
frame_rows b s = request_rows s ++ asked_rows b.pack s (request_of s)

-- a call that answers a request: 1, reply buffer under 259 bytes; then its own rows and the request's. What is done after what the request
-- changes, and what that adds to the history
abbrev pub answering : (Board → List ℕ) → ℕ → (Board → List (Refusal × Bool)) → (Board → Board) → List Deed → Bool → Shape
answering request room rows after deeds line =
    record {
      rows = λ b. (NoRoom, ltb room 259) ∷ (rows b ++ frame_rows b (request b));
      done = λ b. after (changed_by b (request b) (request_of (request b)));
      lent = λ b. reply_lent (request b) room (accepted_reply b.pack b.hire (request b) (request_of (request b)));
      carries = λ b. 0;
      deeds = λ b. deeds ++ asked_deeds (request b) (request_of (request b));
      on_line = line;
      fetches = line;
    }

unfoldable pub shape : Call → Shape
shape (tick cells r) =
    plain (λ b. tick_rows b.pack.cells b.pack.per_km (length cells) r) (λ b. ticked_of b cells r) (λ b. took cells r ∷ [])
shape (frame s room) = answering (λ b. s) room (λ b. []) (λ b. b) [] false
-- on a usable board handover refuses nothing but, by W-214 of document 02, a record not of 32 bytes
shape (handover number n) = writing (λ b. record_rows n) (λ b. record_bytes (record_for b number)) handed_over (λ b. handed ∷ [])
-- 6, an offer (of no bytes too) while a frame is held
shape (offer bytes) =
    record {
      rows = λ b. (FrameHeld, holds b) ∷ [];
      done = λ b. with_receiver b (filled b.hire.receiver bytes);
      lent = λ b. nothing_lent;
      carries = λ b. taken b.hire.receiver bytes;
      deeds = λ b. heard (take (taken b.hire.receiver bytes) bytes) ∷ [];
      on_line = true;
      fetches = false;
    }
-- 7, a fetch with none held, after 1, which leaves the frame held; else as the held frame, which is let go
shape (fetch room) = answering held_in room (λ b. (NoFrameHeld, not (holds b)) ∷ []) let_go (fetched ∷ []) true
shape (save n) = showing (λ b. save_rows n) (λ b. area_of b.hire.events)
shape (load area) = plain (λ b. load_rows area) (λ b. with_events b (list_of (events_in area))) (λ b. loaded (events_in area) ∷ [])
-- from the readings that the board holds, and nothing else
shape (cabinet n) = showing (λ b. cabinet_rows n) (λ b. filled_of (measured_in b) 20)
-- the board's settings under a new edition, which the answer carries
shape (keep store) =
    record {
      rows = λ b. keep_rows store;
      done = λ b. b;
      lent = λ b. area_lent (kept_store store b.pack.settings);
      carries = λ b. next_edition (editions_in store);
      deeds = λ b. [];
      on_line = false;
      fetches = false;
    }
-- all twelve settings of an edition, as one write
shape (recall store edition) =
    plain (λ b. recall_rows b.pack.settings store edition) (λ b. written b (pairs_for store edition))
    (λ b. wrote (pairs_for store edition) ∷ [])

-- ---- one call, of its shape

-- 21 before all others, then from the lowest on
unfoldable pub outcome_of : Board → Shape → Outcome
outcome_of b c = first ((NoBoard, not (usable b)) ∷ c.rows b)

-- those that are answered with a NACK
abbrev pub is_nack : Option ℕ → Bool
is_nack None = false
is_nack (Some error) = true

abbrev pub nacks : Outcome → Bool
nacks (Ok done) = false
nacks (Err refusal) = is_nack (left_by refusal)

-- document 02, W-201: "a fetch that answers with a NACK lets the held frame go and changes no other state, which amends demand 1 and 01's
-- table". (2 is here for boards that no start reaches: a held frame is the board's own)
abbrev pub lost : Outcome → Bool
lost (Ok done) = false
lost (Err refusal) = eqb (refusal_number refusal) 2 || is_nack (left_by refusal)

abbrev pub lets_go : Shape → Outcome → Bool
lets_go c outcome = lost outcome && c.fetches

-- the board after a call that comes to that
unfoldable pub board_by : Board → Shape → Outcome → Board
board_by b c outcome = cond (is_done outcome) (c.done b) (cond (lets_go c outcome) (let_go b) b)

-- what is seen of what was lent: an area that is not written is what its lender put there, so it is seen as nothing and no demand compares
-- it
unfoldable pub seen_of : Lent → Outcome → List ℕ
seen_of nothing_lent outcome = []
seen_of (reply_lent s room reply) outcome = padded room (reply_by outcome s reply)
seen_of (area_lent area) outcome = cond (is_done outcome) area []

-- what stands in what was lent
unfoldable pub left_of : Lent → Outcome → List ℕ → List ℕ
left_of nothing_lent outcome before = before
left_of (reply_lent s room reply) outcome before = seen_of (reply_lent s room reply) outcome
left_of (area_lent area) outcome before = cond (is_done outcome) area before

-- what the caller sees: what the call came to, every byte of a lent reply buffer or area that is written, what its answer carries, both
-- switches and both sets of bits after the call
pub record Seen : Type 0 where
  pub outcome : Outcome
  pub buffer : List ℕ
  pub carried : ℕ
  pub charge : Bool
  pub discharge : Bool
  pub decision : ℕ
  pub balancing : ℕ

abbrev pub seen : Board → Outcome → List ℕ → ℕ → Seen
seen b outcome buffer carried =
    record {
      outcome = outcome;
      buffer = buffer;
      carried = carried;
      charge = b.hire.charge;
      discharge = b.hire.discharge;
      decision = b.hire.decision;
      balancing = b.hire.balancing;
    }

abbrev pub outcome_in : Board → Call → Outcome
outcome_in b c = outcome_of b (shape c)

abbrev pub board_after : Board → Call → Board
board_after b c = board_by b (shape c) (outcome_in b c)

abbrev pub buffer_after : Board → Call → List ℕ
buffer_after b c = seen_of ((shape c).lent b) (outcome_in b c)

abbrev pub carried_by : Board → Call → ℕ
carried_by b c = cond (is_done (outcome_in b c)) ((shape c).carries b) 0

abbrev pub step : Board → Call → Board × Seen
step b c = (board_after b c, seen (board_after b c) (outcome_in b c) (buffer_after b c) (carried_by b c))

-- what a call gives back
abbrev pub answer_to : Board → Call → Answer
answer_to b c = record { outcome = outcome_in b c; board = board_after b c }

abbrev pub hearing : Board → Call → Heard
hearing b c = record { outcome = outcome_in b c; taken = carried_by b c; board = board_after b c }

abbrev pub storing : Board → Call → Stored
storing b c = record { outcome = outcome_in b c; edition = carried_by b c; board = board_after b c }
