-- What each public function of the board promises of its result. The functions cite these by name, and so does the theorem that any two
-- results which a promise allows are equal (proofs/Promises).
-- Assumes nothing.
use Rattle.std.specs.Prelude.{Bool, not, cond, List, [], ◌∷◌, ◌≡◌, ℕ, ◌≤◌, ltb, Option}
use Rattle.refusals.specs.declared.Refusal.{Refusal}
use Rattle.refusals.specs.declared.Refusal.TheVariants.{NoRoom, NoFrameHeld, NoBoard}
use Rattle.refusals.specs.Refusals.{Outcome, is_done, first}
use Rattle.events.specs.declared.Event.{Event}
use Rattle.events.specs.Events.{capacity, kept_count, new_count, kept_of, new_of, placed}
use Rattle.board.specs.declared.Board.{Board}
use Rattle.board.specs.declared.Answer.{Answer}
use Rattle.board.specs.declared.Heard.{Heard}
use Rattle.board.specs.declared.Stored.{Stored}
use Rattle.answers.specs.Registers.{shown_at}
use Rattle.answers.specs.Answers.{asked_outcome, asked_settings, asked_reply}
use Rattle.requests.specs.Requests.{request_of, Asked}
use Rattle.settings.specs.declared.Settings.{Settings}
use Rattle.replies.specs.Replies.{Filled}
use Rattle.board.specs.Start.{start_of}
use Rattle.board.specs.State.{usable}
use Rattle.board.specs.Line.{holds}
use Rattle.board.specs.Changes.{changed_by}
use Rattle.board.specs.Calls.{Call, offer, keep, shape, outcome_in, left_of, answer_to, hearing, storing}

-- ---- the first rows of a frame and of a fetch

abbrev pub room_rows : Board → ℕ → List (Refusal × Bool)
room_rows b room = (NoBoard, not (usable b)) ∷ (NoRoom, ltb room 259) ∷ []

abbrev pub ready_rows : Board → ℕ → List (Refusal × Bool)
ready_rows b room = (NoBoard, not (usable b)) ∷ (NoRoom, ltb room 259) ∷ (NoFrameHeld, not (holds b)) ∷ []

-- what is given back to a request that there is room for
abbrev pub request_outcome : Board → List ℕ → Outcome
request_outcome b s = asked_outcome b.pack s (request_of s)

abbrev pub request_answer : Board → List ℕ → Answer
request_answer b s = record { outcome = request_outcome b s; board = cond (is_done (request_outcome b s)) (changed_by b s (request_of s)) b }

-- what a request changes that is accepted: the board after it, of any bytes that ask this and leave those settings
pub record Changed (b : Board) (q : Asked) (st : Settings) (r : Board) : Type 0 where
  pub changed : (s : List ℕ) → st ≡ asked_settings b.pack s q → r ≡ changed_by b s q

-- ---- the calls

abbrev pub Starts : ℕ → ℕ → Answer → Type 0
Starts cells per_km r = r ≡ start_of cells per_km

-- a call that is lent nothing: what it comes to, and the board after it
abbrev pub Answers : Board → Call → Answer → Type 0
Answers b c r = r ≡ answer_to b c

-- a call that is lent a buffer or an area: those, and every byte of it; an area that is refused is as it was
abbrev pub left_in : Board → Call → List ℕ → List ℕ
left_in b c before = left_of ((shape c).lent b) (outcome_in b c) before

pub record Leaves (b : Board) (c : Call) (before : List ℕ) (r : Answer) (after : List ℕ) : Type 0 where
  pub answer : r ≡ answer_to b c
  pub lent : after ≡ left_in b c before

abbrev pub Offers : Board → List ℕ → Heard → Type 0
Offers b bytes r = r ≡ hearing b (offer bytes)

-- the settings into a store: what it comes to, the edition, the board, and every byte of the store; one that is refused is as it was
pub record Stores (b : Board) (store : List ℕ) (r : Stored) (after : List ℕ) : Type 0 where
  pub answer : r ≡ storing b (keep store)
  pub lent : after ≡ left_in b (keep store) store

pub record Roomed (b : Board) (room : ℕ) (r : Outcome) : Type 0 where
  pub outcome : r ≡ first (room_rows b room)

pub record Readied (b : Board) (room : ℕ) (r : Outcome) : Type 0 where
  pub outcome : r ≡ first (ready_rows b room)

-- in a buffer of any length
pub record Answered (b : Board) (s before : List ℕ) (r : Answer) (after : List ℕ) : Type 0 where
  pub answer : r ≡ request_answer b s
  pub reply : Filled before (asked_reply b.pack b.hire s (request_of s)) after

-- ---- what is read off a board

abbrev pub ShowsRegister : Board → ℕ → Option ℕ → Type 0
ShowsRegister b at r = r ≡ shown_at b.pack b.hire at

abbrev pub ShowsCharge : Board → Bool → Type 0
ShowsCharge b r = r ≡ b.hire.charge

abbrev pub ShowsDischarge : Board → Bool → Type 0
ShowsDischarge b r = r ≡ b.hire.discharge

abbrev pub ShowsDecision : Board → ℕ → Type 0
ShowsDecision b r = r ≡ b.hire.decision

abbrev pub ShowsBalancing : Board → ℕ → Type 0
ShowsBalancing b r = r ≡ b.hire.balancing

abbrev pub ShowsLifetime : Board → ℕ → Type 0
ShowsLifetime b r = r ≡ b.pack.clock.seconds

abbrev pub CountsKept : Board → ℕ → Type 0
CountsKept b r = (r ≡ kept_count b.hire.events) × (r ≤ capacity)

abbrev pub ShowsKept : Board → ℕ → Event → Type 0
ShowsKept b n r = r ≡ placed (kept_of b.hire.events) n

abbrev pub CountsNew : Board → ℕ → Type 0
CountsNew b r = (r ≡ new_count b.hire.events) × (r ≤ capacity)

abbrev pub ShowsNew : Board → ℕ → Event → Type 0
ShowsNew b n r = r ≡ placed (new_of b.hire.events) n
