-- The three demands, of any behaviour. None has a hypothesis but what demand 3 says of the two boards.
-- Assumes nothing.
use Rattle.std.specs.Prelude.{Bool, true, false, cond, ◌⊎◌, List, [], ◌∷◌, reverse, ◌≡◌, ℕ, ◌-◌, ◌≤◌, length, take, drop, replicate}
use Rattle.refusals.specs.declared.Refusal.{Refusal}
use Rattle.refusals.specs.declared.Refusal.TheVariants.{NoFrameHeld, NoBoard}
use Rattle.refusals.specs.Refusals.{Done, Refused, is_done}
use Rattle.desk.specs.Desk.{record_length}
use Rattle.guard.specs.Quiet.{all_quiet}
use Rattle.pack.specs.Pack.{usable_count}
use Rattle.requests.specs.Requests.{request_of}
use Rattle.replies.specs.Replies.{padded}
use Rattle.answers.specs.Answers.{reply_bytes, refused_reply}
use Rattle.board.specs.declared.Board.{Board}
use Rattle.board.specs.Calls.{Call, Seen, handover, fetch, Lent, nothing_lent, reply_lent, area_lent, shape, nacks, lets_go, step}
use Rattle.board.specs.Behaviour.{Behaviour, after_in, answers_in}
use Rattle.board.specs.Deeds.{Deed}
use Rattle.board.specs.Account.{board_at, outcome_at, deeds_of}
use Rattle.board.specs.Account.OffTheLine.{heard_at}
use Rattle.board.specs.Account.Kept.{settings_at, clock_at, count_at, latched_at, waits_at, remembered_at, moments_at}

-- the history of calls made in that order, and its deeds
abbrev pub deeds : ℕ → ℕ → List Call → List Deed
deeds cells per_km cs = deeds_of cells per_km (reverse cs)

-- ---- Demand 1. Any bytes, readings or settings may arrive; each call answers and ends. Bad input gets its number, changes no
-- state, and leaves the named NACK or zeros. Nothing lent earlier survives past the end of a reply.

-- how many bytes the reply to an accepted request has
abbrev pub reply_size : Board → List ℕ → ℕ
reply_size b s = reply_bytes b.pack b.hire (request_of s)

-- what is left of a buffer of that room for the reply to the request s, where the board before it shows b: of the same length; after a
-- refusal what it leaves, a NACK or nothing, and zeros; after a reply zeros, to its end
abbrev pub LeavesReply : Board → Seen → List ℕ → ℕ → Type 0
LeavesReply b a s room =
    (length a.buffer ≡ room)
    × ((refusal : Refusal) → a.outcome ≡ Refused refusal → a.buffer ≡ padded room (refused_reply refusal s))
    × (a.outcome ≡ Done → drop (reply_size b s) a.buffer ≡ replicate (room - reply_size b s) 0)

-- what a call leaves of what it is lent; a written area is what the call says, and of one that is refused nothing is seen
abbrev pub Leaves : Board → Seen → Lent → Type 0
Leaves b a nothing_lent = a.buffer ≡ []
Leaves b a (reply_lent s room reply) = LeavesReply b a s room
Leaves b a (area_lent area) = a.buffer ≡ cond (is_done a.outcome) area []

-- calls that are none of the raw line's
abbrev pub off_the_line : List Call → Bool
off_the_line [] = true
off_the_line (c ∷ cs) = cond (shape c).on_line false (off_the_line cs)

-- calls by which no frame is fetched; and calls without those of the raw line
abbrev pub fetchless : List Call → Bool
fetchless [] = true
fetchless (c ∷ cs) = cond (shape c).fetches false (fetchless cs)

abbrev pub without_line : List Call → List Call
without_line [] = []
without_line (c ∷ cs) = cond (shape c).on_line (without_line cs) (c ∷ without_line cs)

-- the state after calls, and what is seen at one more
abbrev pub reached : (B : Behaviour) → ℕ → ℕ → List Call → B.State
reached B cells per_km cs = after_in B (B.start cells per_km) cs

abbrev pub shown : (B : Behaviour) → ℕ → ℕ → List Call → Call → Seen
shown B cells per_km cs c = (B.step (reached B cells per_km cs) c).1

abbrev pub next : (B : Behaviour) → ℕ → ℕ → List Call → Call → B.State
next B cells per_km cs c = (B.step (reached B cells per_km cs) c).0

pub record Demand1 (B : Behaviour) : Type 0 where
  -- a start gets its number
  pub starts : (cells per_km : ℕ) → B.started cells per_km ≡ cond (usable_count cells) Done (Refused NoBoard)
  -- after any calls, each call gets its number, by its rows
  pub outcomes : (cells per_km : ℕ) (cs : List Call) (c : Call)
      → (shown B cells per_km cs c).outcome ≡ outcome_at cells per_km (deeds cells per_km cs) c
  -- a refused one changes no state
  pub unchanged : (cells per_km : ℕ) (cs : List Call) (c : Call)
      → ((shown B cells per_km cs c).outcome ≡ Done → ⊥)
      → lets_go (shape c) (shown B cells per_km cs c).outcome ≡ false
      → next B cells per_km cs c ≡ reached B cells per_km cs
  -- but that a fetch that answers with a NACK lets the held frame go: none is held then, and all calls but the raw line's are answered as
  -- if it had not come. (2 is among what lets go for boards that no start reaches: by `outcomes` no fetch is answered 2,
  -- proofs/Demands/Demand1, own)
  pub lets_frame_go : (cells per_km : ℕ) (cs : List Call) (room : ℕ)
      → nacks (shown B cells per_km cs (fetch room)).outcome ≡ true
      → ((B.step (next B cells per_km cs (fetch room)) (fetch room)).1.outcome ≡ Refused NoFrameHeld)
      × ((zs : List Call) → off_the_line zs ≡ true
      → answers_in B (next B cells per_km cs (fetch room)) zs ≡ answers_in B (reached B cells per_km cs) zs)
  -- and every call, an offer too, is answered as if no byte of it had come: as on the board that had heard nothing of a frame (after a
  -- start, a fetch or a handover) and was called since by all but the raw line
  pub lets_all_go : (cells per_km : ℕ) (cs os : List Call) (room : ℕ)
      → heard_at (deeds cells per_km cs) ≡ [] → fetchless os ≡ true
      → nacks (B.step (after_in B (reached B cells per_km cs) os) (fetch room)).1.outcome ≡ true
      → (zs : List Call)
      → answers_in B (B.step (after_in B (reached B cells per_km cs) os) (fetch room)).0 zs
      ≡ answers_in B (after_in B (reached B cells per_km cs) (without_line os)) zs
  -- and leaves of the buffer what is named, and nothing else
  pub leaves : (cells per_km : ℕ) (cs : List Call) (c : Call)
      → Leaves (board_at cells per_km (deeds cells per_km cs)) (shown B cells per_km cs c)
      ((shape c).lent (board_at cells per_km (deeds cells per_km cs)))
  -- a refused one takes nothing
  pub takes : (cells per_km : ℕ) (cs : List Call) (c : Call) → ((shown B cells per_km cs c).outcome ≡ Done → ⊥)
      → (shown B cells per_km cs c).carried ≡ 0

-- ---- Demand 2. Every reply, register, event, switch and balancing bit is what document 01 works out.

-- what the paper shows at a call, after a history of calls (newest first): outcome and buffer by the board that the history makes,
-- switches and bits by the history with this call
unfoldable pub told : ℕ → ℕ → List Call → Call → Seen
told cells per_km h c =
    record {
      outcome = (step (board_at cells per_km (deeds_of cells per_km h)) c).1.outcome;
      buffer = (step (board_at cells per_km (deeds_of cells per_km h)) c).1.buffer;
      carried = (step (board_at cells per_km (deeds_of cells per_km h)) c).1.carried;
      charge = (board_at cells per_km (deeds_of cells per_km (c ∷ h))).hire.charge;
      discharge = (board_at cells per_km (deeds_of cells per_km (c ∷ h))).hire.discharge;
      decision = (board_at cells per_km (deeds_of cells per_km (c ∷ h))).hire.decision;
      balancing = (board_at cells per_km (deeds_of cells per_km (c ∷ h))).hire.balancing;
    }

unfoldable pub told_all : ℕ → ℕ → List Call → List Call → List Seen
told_all cells per_km h [] = []
told_all cells per_km h (c ∷ cs) = told cells per_km h c ∷ told_all cells per_km (c ∷ h) cs

abbrev pub Demand2 : Behaviour → Type 0
Demand2 B = (cells per_km : ℕ) (cs : List Call) → answers_in B (B.start cells per_km) cs ≡ told_all cells per_km [] cs

-- ---- Demand 3. Two boards that agree on what a handover keeps (or that went through 300 quiet ticks) answer everything alike ever
-- after.

-- the last n accepted ticks are quiet, and there are so many. Other calls and refused ticks may come between, since only accepted ticks
-- are moments. (300 quiet ticks meet it: proofs/Demands/QuietTicks, quieted)
abbrev pub Quieted : ℕ → List Deed → Type 0
Quieted n h = (n ≤ count_at h) × (all_quiet (take n (moments_at h)) ≡ true)

-- first alternative: equal settings, equally many accepted ticks, the last n accepted of each quiet
pub record BothQuiet (n : ℕ) (h k : List Deed) : Type 0 where
  pub settings : settings_at h ≡ settings_at k
  pub ticks : count_at h ≡ count_at k
  pub first : Quieted n h
  pub second : Quieted n k

-- second: equal settings, clock to its tenth, latched conditions, remaining waits and remembered sensors
pub record SameKept (h k : List Deed) : Type 0 where
  pub settings : settings_at h ≡ settings_at k
  pub clock : clock_at h ≡ clock_at k
  pub latched : latched_at h ≡ latched_at k
  pub waits : waits_at h ≡ waits_at k
  pub remembered : remembered_at h ≡ remembered_at k

-- what is seen at a handover but its record (W-214: "Demand 3 does not compare the record, only what comes after")
abbrev pub without_record : Seen → Seen
without_record a =
    record {
      outcome = a.outcome;
      buffer = [];
      carried = a.carried;
      charge = a.charge;
      discharge = a.discharge;
      decision = a.decision;
      balancing = a.balancing;
    }

-- two boards whose histories agree so: the handover, whatever pack numbers the desk gives, is alike but for its record, and from it on any
-- equal list of calls gets equal answers, refused calls and records of later handovers included, for ever
abbrev pub Alike : Behaviour → (List Deed → List Deed → Type 0) → Type 0
Alike B Agree =
    (cells per_km : ℕ) (xs ys zs : List Call) (number number' : ℕ)
    → Agree (deeds cells per_km xs) (deeds cells per_km ys)
    → (without_record (shown B cells per_km xs (handover number record_length))
    ≡ without_record (shown B cells per_km ys (handover number' record_length)))
    × (answers_in B (next B cells per_km xs (handover number record_length)) zs
    ≡ answers_in B (next B cells per_km ys (handover number' record_length)) zs)

-- (each of these is needed, 300, both boards' ticks and the clock's tenth too: crate `facts`, Needed)
abbrev pub Demand3 : Behaviour → Type 0
Demand3 B = Alike B (λ h k. BothQuiet 300 h k ⊎ SameKept h k)
