-- Each public call's promise determines its number, the state and every byte lent to it, refusals too: any two results allowed by it
-- are equal. And what it determines is the behaviour's step. The promises are those that the functions cite, by their names.
-- Assumes nothing.
use Rattle.std.specs.Prelude.{Option}
use mathlib.Core.Path.{◌≡◌, refl, sym, ◌∙◌}
use mathlib.Core.Bool.{Bool, true, false, cond}
use mathlib.Core.List.{List, []}
use Prim.Native.Nat.{ℕ}
use Rattle.refusals.specs.Refusals.{Outcome, is_done}
use Rattle.events.specs.declared.Event.{Event}
use Rattle.board.specs.declared.Board.{Board}
use Rattle.board.specs.declared.Answer.{Answer}
use Rattle.board.specs.declared.Heard.{Heard}
use Rattle.board.specs.declared.Stored.{Stored}
use Rattle.board.specs.Promises.{Starts, Answers, Leaves, Offers, Stores, ShowsRegister, ShowsCharge, ShowsDischarge, ShowsDecision}
use Rattle.board.specs.Promises.{ShowsBalancing, ShowsLifetime, CountsKept, ShowsKept, CountsNew, ShowsNew}
use Rattle.board.specs.Calls.{Call, offer, keep, Lent, nothing_lent, reply_lent, area_lent, Seen, seen, shape, seen_of, left_of, outcome_in}
use Rattle.board.specs.Calls.{board_after, carried_by, step}

-- any two results that a promise allows are equal
abbrev pub Determines : (A : Type 0) → (A → Type 0) → Type 0
Determines A promise = (r r' : A) → promise r → promise r' → r ≡ r'

equal : {A : Type 0} (x : A) → Determines A (λ r. r ≡ x)
equal x r r' p q = p ∙ sym q

-- of a call that is lent something: its answer, and what is left there
both : (b : Board) (c : Call) (before : List ℕ) (r r' : Answer) (after after' : List ℕ) → Leaves b c before r after
    → Leaves b c before r' after' → (r ≡ r') × (after ≡ after')
both b c before r r' after after' f g = (equal _ r r' f.answer g.answer, equal _ after after' f.lent g.lent)

-- the public calls, and what is read off a board
pub record Promises : Type 0 where
  pub start : (cells per_km : ℕ) → Determines Answer (Starts cells per_km)
  -- a call that is lent nothing, and one that is lent something
  pub answered : (b : Board) (c : Call) → Determines Answer (Answers b c)
  pub left : (b : Board) (c : Call) (before : List ℕ) (r r' : Answer) (after after' : List ℕ)
      → Leaves b c before r after → Leaves b c before r' after' → (r ≡ r') × (after ≡ after')
  pub offered : (b : Board) (bytes : List ℕ) → Determines Heard (Offers b bytes)
  pub stored : (b : Board) (store : List ℕ) (r r' : Stored) (after after' : List ℕ)
      → Stores b store r after → Stores b store r' after' → (r ≡ r') × (after ≡ after')
  pub register : (b : Board) (at : ℕ) → Determines (Option ℕ) (ShowsRegister b at)
  pub charge : (b : Board) → Determines Bool (ShowsCharge b)
  pub discharge : (b : Board) → Determines Bool (ShowsDischarge b)
  pub decision : (b : Board) → Determines ℕ (ShowsDecision b)
  pub balancing : (b : Board) → Determines ℕ (ShowsBalancing b)
  pub lifetime : (b : Board) → Determines ℕ (ShowsLifetime b)
  pub kept_counted : (b : Board) → Determines ℕ (CountsKept b)
  pub kept_event : (b : Board) (n : ℕ) → Determines Event (ShowsKept b n)
  pub new_counted : (b : Board) → Determines ℕ (CountsNew b)
  pub new_event : (b : Board) (n : ℕ) → Determines Event (ShowsNew b n)

pub tight : Promises
tight =
    record {
      start = λ cells per_km. equal _;
      answered = λ b c. equal _;
      left = both;
      offered = λ b bytes. equal _;
      stored = λ b store r r' after after' f g. (equal _ r r' f.answer g.answer, equal _ after after' f.lent g.lent);
      register = λ b at. equal _;
      charge = λ b. equal _;
      discharge = λ b. equal _;
      decision = λ b. equal _;
      balancing = λ b. equal _;
      lifetime = λ b. equal _;
      kept_counted = λ b r r' p q. equal _ r r' p.0 q.0;
      kept_event = λ b n. equal _;
      new_counted = λ b r r' p q. equal _ r r' p.0 q.0;
      new_event = λ b n. equal _;
    }

-- ---- a result that a promise allows is the behaviour's step

-- of a call that is lent nothing
pub answer_steps : (b : Board) (c : Call) (r : Answer) → (shape c).lent b ≡ nothing_lent → (shape c).carries b ≡ 0 → Answers b c r
    → ◌≡◌ {A = Board × Seen} (r.board, seen r.board r.outcome [] 0) (step b c)
unfolding seen_of
answer_steps b c r l k p =
    (λ i. ((p i).board, seen (p i).board (p i).outcome [] 0))
    ∙ (λ i. (board_after b c, seen (board_after b c) (outcome_in b c) (seen_of (sym l i) (outcome_in b c)) (none (is_done (outcome_in b c)) i)))
  where
    none : (t : Bool) → 0 ≡ cond t ((shape c).carries b) 0
    none true = sym k
    none false = refl

-- of one that is lent something: what is seen of it is what is left there, but of an area that is not written
abbrev pub seen_in : Lent → Outcome → List ℕ → List ℕ
seen_in nothing_lent outcome after = []
seen_in (reply_lent s room reply) outcome after = after
seen_in (area_lent area) outcome after = cond (is_done outcome) after []

area_seen : (t : Bool) (area before : List ℕ) → cond t (cond t area before) [] ≡ cond t area []
area_seen true area before = refl
area_seen false area before = refl

same_seen : (before : List ℕ) (l : Lent) (o : Outcome) → seen_in l o (left_of l o before) ≡ seen_of l o
unfolding seen_of left_of
same_seen before nothing_lent o = refl
same_seen before (reply_lent s room reply) o = refl
same_seen before (area_lent area) o = area_seen (is_done o) area before

pub lent_steps : (b : Board) (c : Call) (before : List ℕ) (r : Answer) (after : List ℕ) → (shape c).carries b ≡ 0 → Leaves b c before r after
    → ◌≡◌ {A = Board × Seen} (r.board, seen r.board r.outcome (seen_in ((shape c).lent b) r.outcome after) 0) (step b c)
unfolding seen_of left_of
lent_steps b c before r after k f =
    (λ i. (
      (f.answer i).board,
      seen (f.answer i).board (f.answer i).outcome (seen_in ((shape c).lent b) (f.answer i).outcome (f.lent i))
          0,
    ))
    ∙ (λ i. (
      board_after b c,
      seen (board_after b c) (outcome_in b c) (same_seen before ((shape c).lent b) (outcome_in b c) i)
          (none (is_done (outcome_in b c)) i),
    ))
  where
    none : (t : Bool) → 0 ≡ cond t ((shape c).carries b) 0
    none true = sym k
    none false = refl

pub offer_steps : (b : Board) (bytes : List ℕ) (r : Heard) → Offers b bytes r
    → ◌≡◌ {A = Board × Seen} (r.board, seen r.board r.outcome [] r.taken) (step b (offer bytes))
unfolding shape seen_of
offer_steps b bytes r p = λ i. ((p i).board, seen (p i).board (p i).outcome [] (p i).taken)

-- a keep, with its edition
pub keep_steps : (b : Board) (store : List ℕ) (r : Stored) (after : List ℕ) → Stores b store r after
    → ◌≡◌ {A = Board × Seen}
    (r.board, seen r.board r.outcome (seen_in ((shape (keep store)).lent b) r.outcome after) r.edition) (step b (keep store))
keep_steps b store r after f =
    let c = keep store in
    (λ i. (
      (f.answer i).board,
      seen (f.answer i).board (f.answer i).outcome (seen_in ((shape c).lent b) (f.answer i).outcome (f.lent i))
          (f.answer i).edition,
    ))
    ∙ (λ i. (
      board_after b c,
      seen (board_after b c) (outcome_in b c) (same_seen store ((shape c).lent b) (outcome_in b c) i)
          (carried_by b c),
    ))
