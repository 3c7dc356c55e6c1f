-- W-214, the charge of a hire. "The sums leave the board in that record and nowhere else": two boards that differ in the sums alone answer
-- every call alike ever after, but for the record of the first handover, and for that too once the statistics were cleared; it holds of
-- every board that meets demand 2, and a board that shows a sum in its replies fails it. "And start at zero for the next rider": the record
-- of a handover is that of the ticks since the handover before it, whatever came earlier.
-- Assumes nothing.
use Rattle.std.specs.Prelude.{Err, Ok}
use mathlib.Core.Path.{◌≡◌, refl, sym, ap, ◌∙◌}
use mathlib.Core.Bool.{Bool, true, false, ◌&&◌, not, cond, false≢true}
use mathlib.Core.List.{List, [], ◌∷◌, ◌++◌}
use Prim.Native.Nat.{ℕ, ◌+◌, ◌%◌, ◌-◌, ◌≤◌, min}
use native.Mathlib.Omega.{arith}
use lib.IntN.{pos}
use lib.ListN.{set, length-append}
use Rattle.laws.specs.History.{never, each, since, from, any, sum}
use Rattle.guard.specs.declared.Condition.TheVariants.{UV, OV, OT, DOC, COC, ROC}
use Rattle.refusals.specs.declared.Refusal.{Refusal}
use Rattle.refusals.specs.declared.Refusal.TheVariants.{NoBoard}
use Rattle.refusals.specs.Refusals.{Outcome, is_done, first}
use Rattle.signed.specs.Signed.{above, below}
use Rattle.readings.specs.declared.Readings.{Readings}
use Rattle.desk.specs.declared.Record.{Record}
use Rattle.statistics.specs.declared.Sums.{Sums}
use Rattle.statistics.specs.Statistics as statistics
use Rattle.requests.specs.declared.Query.{Query}
use Rattle.requests.specs.declared.Query.TheVariants.{Registers, Listed, Bare, NewEvents, AllEvents, Temperatures, Cells, SettingsOf}
use Rattle.requests.specs.declared.Request.TheVariants as request
use Rattle.requests.specs.Requests.{request_of, marks, Asked}
use Rattle.replies.specs.Replies.{sealed}
use Rattle.hire.specs.Hire.{new_hire}
use Rattle.hire.specs.Registers.{reading_register}
use Rattle.answers.specs.Registers.{shown_at, value_at}
use Rattle.answers.specs.Answers.{body_by, body_of, accepted_reply}
use Rattle.board.specs.declared.Board.{Board}
use Rattle.board.specs.State.{usable, with_statistics}
use Rattle.board.specs.Start.{start_board}
use Rattle.board.specs.Line.{held_in, let_go}
use Rattle.board.specs.Handover.{record_for, handed_over}
use Rattle.board.specs.Changes.{changed_by, asked_deeds}
use Rattle.board.specs.Calls.{Call, tick, frame, handover, offer, fetch, save, load, cabinet, keep, recall}
use Rattle.board.specs.Calls.{Seen, seen, Lent, nothing_lent, area_lent, reply_lent, shape, outcome_of, lets_go, board_by, seen_of}
use Rattle.board.specs.Calls.{outcome_in, board_after, step}
use Rattle.board.specs.Behaviour.{Behaviour, board, answers_in}
use Rattle.board.specs.Account.{Deed, took, wrote, cleared, forgot, sent, handed, heard, fetched, loaded, row, clears, hands, ticking}
use Rattle.board.specs.Account.{count_at, seconds_at, clock_at, latchings, statistics_at, distance_at, board_at}
use Rattle.board.specs.Demands.{deeds, reached, without_record, Demand2}
use Rattle.board.proofs.Opened.{steps, accounted}
use Rattle.board.proofs.Account.Shown.{distance_shown}
use Rattle.board.proofs.Demands.Demand2.{account}
use Rattle.board.proofs.Demands.Demand3.{alike}
use Rattle.facts.proofs.Calls.{flow, still, status, byte_at}

-- ---- the first statement

-- a board with other sums, and all else as it is
abbrev pub with_sums : Board → Sums → Board
with_sums b x =
    let s = b.hire.statistics in
    with_statistics b (record {
      temperatures = s.temperatures;
      counts = s.counts;
      sums = x;
      pulses = s.pulses;
      drawn = s.drawn;
      fed = s.fed;
      difference = s.difference;
      cleared = s.cleared;
    })

-- a call that clears the statistics, or hands over: it is done, and one of its deeds does it
abbrev pub clears_at : Board → Call → Bool
clears_at b c = is_done (outcome_in b c) && any clears ((shape c).deeds b)

-- of the answers to calls on b, all but the record of the first handover, if no clear came before it
abbrev pub but_record : Board → List Call → List Seen → List Seen
but_record b [] answers = answers
but_record b (c ∷ cs) [] = []
but_record b (c ∷ cs) (a ∷ answers) =
    cond (clears_at b c) (cond (any hands ((shape c).deeds b)) (without_record a) a ∷ answers) (a ∷ but_record (board_after b c) cs answers)

-- two histories whose boards differ in the sums alone: from there on any equal list of calls gets equal answers, but for that record
abbrev pub NowhereElse : Behaviour → Type 0
NowhereElse B =
    (cells per_km : ℕ) (xs ys zs : List Call) (x : Sums)
    → board_at cells per_km (deeds cells per_km ys) ≡ with_sums (board_at cells per_km (deeds cells per_km xs)) x
    → but_record (board_at cells per_km (deeds cells per_km xs)) zs (answers_in B (reached B cells per_km xs) zs)
    ≡ but_record (board_at cells per_km (deeds cells per_km xs)) zs (answers_in B (reached B cells per_km ys) zs)

-- ---- one call does not look at the sums

-- where they are cleared, both at zero
no_sums : Sums
no_sums = record { positive = 0; negative = 0 }

module _ (b : Board) (x : Sums) where
  bodies : (s : List ℕ) (q : Query) → body_of b.pack (with_sums b x).hire s q ≡ body_of b.pack b.hire s q
  unfolding value_at shown_at reading_register statistics.register_of body_by
  bodies s (Registers command at n) = refl
  bodies s (Listed n) = refl
  bodies s (Bare command at n) = refl
  bodies s NewEvents = refl
  bodies s AllEvents = refl
  bodies s Temperatures = refl
  bodies s Cells = refl
  bodies s (SettingsOf kind n) = refl

  request_reply : (s : List ℕ) (q : Asked)
      → accepted_reply b.pack (with_sums b x).hire s q ≡ accepted_reply b.pack b.hire s q
  unfolding accepted_reply
  request_reply s (Err refusal) = refl
  request_reply s (Ok request.ClearEvents) = refl
  request_reply s (Ok request.ClearStatistics) = refl
  request_reply s (Ok (request.Write f n)) = refl
  request_reply s (Ok (request.Read q)) = ap sealed (bodies s q)

  -- what an accepted request changes, and the sums after it
  record Changes (s : List ℕ) (q : Asked) : Type 0 where
    sums : Sums
    changed : changed_by (with_sums b x) s q ≡ with_sums (changed_by b s q) sums
    fresh : any clears (asked_deeds s q) ≡ true → with_sums (changed_by b s q) sums ≡ changed_by b s q

  changes : (s : List ℕ) (q : Asked) → Changes s q
  unfolding changed_by asked_deeds statistics.cleared_at no_sums
  changes s (Err refusal) = record { sums = x; changed = refl; fresh = λ e. absurd (false≢true e) }
  changes s (Ok request.ClearEvents) = record { sums = x; changed = refl; fresh = λ e. absurd (false≢true e) }
  changes s (Ok request.ClearStatistics) = record { sums = no_sums; changed = refl; fresh = λ e. refl }
  changes s (Ok (request.Write f n)) = record { sums = x; changed = refl; fresh = λ e. absurd (false≢true e) }
  changes s (Ok (request.Read q)) = record { sums = x; changed = refl; fresh = λ e. absurd (false≢true (go (marks q) e)) }
    where
      go : (t : Bool) → any clears (cond t (sent ∷ []) []) ≡ true → false ≡ true
      go true e = e
      go false e = e

  -- its shape is the same, but for the record; and the board after it, but for the sums
  record Hides (c : Call) : Type 0 where
    rows : (shape c).rows (with_sums b x) ≡ (shape c).rows b
    carries : (shape c).carries (with_sums b x) ≡ (shape c).carries b
    sums : Sums
    done : (shape c).done (with_sums b x) ≡ with_sums ((shape c).done b) sums
    fresh : any clears ((shape c).deeds b) ≡ true → with_sums ((shape c).done b) sums ≡ (shape c).done b
    seen_alike : (o : Outcome) → (is_done o && any hands ((shape c).deeds b)) ≡ false
        → seen_of ((shape c).lent (with_sums b x)) o ≡ seen_of ((shape c).lent b) o

  unwritten : (t : Bool) (area area' : List ℕ) → (t && true) ≡ false → ◌≡◌ {A = List ℕ} (cond t area []) (cond t area' [])
  unwritten true area area' e = absurd (false≢true (sym e))
  unwritten false area area' e = refl

  -- a call that leaves the sums as they are
  leaving : (c : Call) → (shape c).rows (with_sums b x) ≡ (shape c).rows b → (shape c).carries (with_sums b x) ≡ (shape c).carries b
      → (shape c).done (with_sums b x) ≡ with_sums ((shape c).done b) x → any clears ((shape c).deeds b) ≡ false
      → ((o : Outcome) → seen_of ((shape c).lent (with_sums b x)) o ≡ seen_of ((shape c).lent b) o) → Hides c
  leaving c rows carries done none alike = record {
    rows = rows;
    carries = carries;
    sums = x;
    done = done;
    fresh = λ e. absurd (false≢true (sym none ∙ e));
    seen_alike = λ o e. alike o;
  }

  hides : (c : Call) → Hides c
  unfolding shape steps handed_over new_hire seen_of statistics.ridden_of statistics.counted_of statistics.summed_of statistics.cleared_at no_sums
  hides (tick given r) = record {
    rows = refl;
    carries = refl;
    sums = statistics.summed_of x r.current;
    done = refl;
    fresh = λ e. absurd (false≢true e);
    seen_alike = λ o e. refl;
  }
  hides (frame s room) =
      let ch = changes s (request_of s) in
      record {
        rows = refl;
        carries = refl;
        sums = ch.sums;
        done = ch.changed;
        fresh = ch.fresh;
        seen_alike = λ o e. ap (λ (reply : List ℕ). seen_of (reply_lent s room reply) o) (request_reply s (request_of s));
      }
  hides (handover number n) = record {
    rows = refl;
    carries = refl;
    sums = no_sums;
    done = refl;
    fresh = λ e. refl;
    seen_alike = λ o e. unwritten (is_done o) _ _ e;
  }
  hides (offer bytes) = leaving (offer bytes) refl refl refl refl (λ o. refl)
  hides (fetch room) =
      let held = held_in b in
      let ch = changes held (request_of held) in
      record {
        rows = refl;
        carries = refl;
        sums = ch.sums;
        done = ap let_go ch.changed;
        fresh = λ e. ap let_go (ch.fresh e);
        seen_alike = λ o e. ap (λ (reply : List ℕ). seen_of (reply_lent held room reply) o) (request_reply held (request_of held));
      }
  hides (save n) = leaving (save n) refl refl refl refl (λ o. refl)
  hides (load area) = leaving (load area) refl refl refl refl (λ o. refl)
  hides (cabinet n) = leaving (cabinet n) refl refl refl refl (λ o. refl)
  hides (keep store) = leaving (keep store) refl refl refl refl (λ o. refl)
  hides (recall store edition) = leaving (recall store edition) refl refl refl refl (λ o. refl)

-- ---- so one call on both boards

module _ (b : Board) (x : Sums) (c : Call) where
  abbrev o : Outcome
  o = outcome_in b c

  outcomes : outcome_in (with_sums b x) c ≡ o
  unfolding outcome_of
  outcomes = ap (λ (rows : List (Refusal × Bool)). first ((NoBoard, not (usable b)) ∷ rows)) (hides b x c).rows

  later : Sums
  later = cond (is_done o) (hides b x c).sums x

  boards : board_after (with_sums b x) c ≡ with_sums (board_after b c) later
  unfolding board_by later
  boards = ap (board_by (with_sums b x) (shape c)) outcomes ∙ go (is_done o) (lets_go (shape c) o)
    where
      go : (t u : Bool)
          → cond t ((shape c).done (with_sums b x)) (cond u (let_go (with_sums b x)) (with_sums b x))
          ≡ with_sums (cond t ((shape c).done b) (cond u (let_go b) b)) (cond t (hides b x c).sums x)
      go true u = (hides b x c).done
      go false true = refl
      go false false = refl

  -- where it clears, the boards after it are one
  cleared_alike : clears_at b c ≡ true → board_after (with_sums b x) c ≡ board_after b c
  unfolding board_by later
  cleared_alike e = boards ∙ go (is_done o) (lets_go (shape c) o) e
    where
      go : (t u : Bool) → (t && any clears ((shape c).deeds b)) ≡ true
          → with_sums (cond t ((shape c).done b) (cond u (let_go b) b)) (cond t (hides b x c).sums x)
          ≡ cond t ((shape c).done b) (cond u (let_go b) b)
      go true u e = (hides b x c).fresh e
      go false u e = absurd (false≢true e)

  -- what is seen: all of it, but where a handover is done its record
  seen_whole : (is_done o && any hands ((shape c).deeds b)) ≡ false → (step (with_sums b x) c).1 ≡ (step b c).1
  seen_whole e =
      (λ i. seen (boards i) (outcomes i) (seen_of ((shape c).lent (with_sums b x)) (outcomes i))
      (cond (is_done (outcomes i)) ((hides b x c).carries i) 0))
      ∙ ap (λ (buffer : List ℕ). seen (board_after b c) o buffer (cond (is_done o) ((shape c).carries b) 0)) ((hides b x c).seen_alike o e)

  seen_but_record : without_record (step (with_sums b x) c).1 ≡ without_record (step b c).1
  seen_but_record = λ i. seen (boards i) (outcomes i) [] (cond (is_done (outcomes i)) ((hides b x c).carries i) 0)

-- ---- and any calls

-- a handover clears
hands_clear : (ds : List Deed) → any hands ds ≡ true → any clears ds ≡ true
hands_clear [] e = absurd (false≢true e)
hands_clear (took cells r ∷ ds) e = hands_clear ds e
hands_clear (wrote ps ∷ ds) e = hands_clear ds e
hands_clear (cleared ∷ ds) e = refl
hands_clear (forgot ∷ ds) e = hands_clear ds e
hands_clear (sent ∷ ds) e = hands_clear ds e
hands_clear (handed ∷ ds) e = refl
hands_clear (heard bytes ∷ ds) e = hands_clear ds e
hands_clear (fetched ∷ ds) e = hands_clear ds e
hands_clear (loaded es ∷ ds) e = hands_clear ds e

one_more : (b : Board) (x : Sums) (c : Call) (cs : List Call)
    → ((y : Sums) → but_record (board_after b c) cs (answers_in board (with_sums (board_after b c) y) cs)
    ≡ but_record (board_after b c) cs (answers_in board (board_after b c) cs))
    → but_record b (c ∷ cs) (answers_in board (with_sums b x) (c ∷ cs)) ≡ but_record b (c ∷ cs) (answers_in board b (c ∷ cs))
unfolding answers_in
one_more b x c cs next =
    go (is_done (outcome_in b c)) refl (any clears ((shape c).deeds b)) refl (any hands ((shape c).deeds b)) refl
  where
    on : but_record (board_after b c) cs (answers_in board (board_after (with_sums b x) c) cs)
        ≡ but_record (board_after b c) cs (answers_in board (board_after b c) cs)
    on = ap (λ (z : Board). but_record (board_after b c) cs (answers_in board z cs)) (boards b x c) ∙ next (later b x c)

    go : (d : Bool) → is_done (outcome_in b c) ≡ d → (t : Bool) → any clears ((shape c).deeds b) ≡ t → (k : Bool)
        → any hands ((shape c).deeds b) ≡ k
        → cond (d && t)
        (cond k (without_record (step (with_sums b x) c).1) (step (with_sums b x) c).1 ∷ answers_in board (board_after (with_sums b x) c) cs)
        ((step (with_sums b x) c).1 ∷ but_record (board_after b c) cs (answers_in board (board_after (with_sums b x) c) cs))
        ≡ cond (d && t) (cond k (without_record (step b c).1) (step b c).1 ∷ answers_in board (board_after b c) cs)
        ((step b c).1 ∷ but_record (board_after b c) cs (answers_in board (board_after b c) cs))
    go false e t f k g =
        let head = seen_whole b x c (ap (λ (u : Bool). u && any hands ((shape c).deeds b)) e) in
        λ i. head i ∷ on i
    go true e false f true g = absurd (false≢true (sym f ∙ hands_clear ((shape c).deeds b) g))
    go true e false f false g =
        let head = seen_whole b x c ((λ i. e i && g i)) in
        λ i. head i ∷ on i
    go true e true f true g =
        let after = ap (λ (z : Board). answers_in board z cs) (cleared_alike b x c ((λ i. e i && f i))) in
        let head = seen_but_record b x c in
        λ i. head i ∷ after i
    go true e true f false g =
        let after = ap (λ (z : Board). answers_in board z cs) (cleared_alike b x c ((λ i. e i && f i))) in
        let head = seen_whole b x c ((λ i. e i && g i)) in
        λ i. head i ∷ after i

both_alike : (b : Board) (x : Sums) (zs : List Call)
    → but_record b zs (answers_in board (with_sums b x) zs) ≡ but_record b zs (answers_in board b zs)
unfolding answers_in
both_alike b x [] = refl
both_alike b x (c ∷ cs) = one_more b x c cs (λ y. both_alike (board_after b c) y cs)

module _ (B : Behaviour) (meets : Demand2 B) where
  by_account : (cells per_km : ℕ) (cs zs : List Call)
      → answers_in B (reached B cells per_km cs) zs ≡ answers_in board (board_at cells per_km (deeds cells per_km cs)) zs
  by_account cells per_km cs zs =
      alike B meets cells per_km cs zs ∙ ap (λ (z : Board). answers_in board z zs) (account cells per_km cs)

  pub nowhere_else : NowhereElse B
  nowhere_else cells per_km xs ys zs x e =
      let h = board_at cells per_km (deeds cells per_km xs) in
      ap (but_record h zs) (by_account cells per_km xs zs) ∙ sym (both_alike h x zs)
      ∙ ap (λ (z : Board). but_record h zs (answers_in board z zs)) (sym e)
      ∙ sym (ap (but_record h zs) (by_account cells per_km ys zs))

-- ---- a board that shows a sum: the low byte of the positive one at place 4 of every reply

abbrev shows : Lent → Sums → List ℕ → List ℕ
shows (reply_lent s room reply) x buffer = set buffer 4 (x.positive % 256)
shows (area_lent area) x buffer = buffer
shows nothing_lent x buffer = buffer

abbrev tells : Board → Call → Board × Seen
tells b c =
    let a = (step b c).1 in (
      (step b c).0,
      record {
        outcome = a.outcome;
        buffer = shows ((shape c).lent b) b.hire.statistics.sums a.buffer;
        carried = a.carried;
        charge = a.charge;
        discharge = a.discharge;
        decision = a.decision;
        balancing = a.balancing;
      },
    )

abbrev pub telling : Behaviour
telling = record { State = Board; start = start_board; started = board.started; step = tells }

-- 5 mA at the tick before the last show in nothing but the sum
pub telling_fails : ¬ NowhereElse telling
unfolding accounted
telling_fails h =
    let e = h 4 2000 (still ∷ still ∷ []) (flow (pos 5) 0 false ∷ still ∷ []) (status ∷ []) (record { positive = 5; negative = 0 }) refl in
    let z : ◌≡◌ {A = ℕ} 0 5 = ap (byte_at 0 4) e in
    omega arith

-- ---- the second statement

-- the accepted ticks among deeds
abbrev pub ticks_of : List Deed → List (List ℕ × Readings)
ticks_of ds = each (λ d. (row d).ticks) ds

-- after a handover and deeds that clear nothing, these are the ticks since the clear
since_handed : (ds k : List Deed) → any clears ds ≡ false → each ticking (since clears (ds ++ (handed ∷ k))) ≡ ticks_of ds
since_handed [] k e = refl
since_handed (d ∷ ds) k e = go (clears d) refl e (since_handed ds k)
  where
    go : (t : Bool) → clears d ≡ t → cond t true (any clears ds) ≡ false
        → (any clears ds ≡ false → each ticking (since clears (ds ++ (handed ∷ k))) ≡ ticks_of ds)
        → each ticking (cond t [] ((d ∷ ds ++ (handed ∷ k)) ∷ since clears (ds ++ (handed ∷ k)))) ≡ (row d).ticks ++ ticks_of ds
    go true f e later = absurd (false≢true (sym e))
    go false f e later = ap (λ (l : List (List ℕ × Readings)). (row d).ticks ++ l) (later e)

from_handed : (ds k : List Deed) → any clears ds ≡ false → from clears (ds ++ (handed ∷ k)) ≡ handed ∷ k
from_handed [] k e = refl
from_handed (d ∷ ds) k e = go (clears d) e (from_handed ds k)
  where
    go : (t : Bool) → cond t true (any clears ds) ≡ false → (any clears ds ≡ false → from clears (ds ++ (handed ∷ k)) ≡ handed ∷ k)
        → cond t (d ∷ ds ++ (handed ∷ k)) (from clears (ds ++ (handed ∷ k))) ≡ handed ∷ k
    go true e later = absurd (false≢true (sym e))
    go false e later = later e

-- the record of the next handover, where no clear came between, whatever the history k before the last one: of the ticks since then, and of
-- them alone; the seconds since then; the latchings since then, as registers 105 to 109 count them
pub record OfTheNextRider (ds k : List Deed) (per_km : ℕ) (r : Record) : Type 0 where
  pub seconds : r.seconds ≡ seconds_at (ds ++ (handed ∷ k)) - seconds_at k
  pub positive : r.positive ≡ min statistics.largest_sum (sum (λ t. above t.1.current) (ticks_of ds))
  pub negative : r.negative ≡ min statistics.largest_sum (sum (λ t. below t.1.current) (ticks_of ds))
  pub distance : r.distance ≡ statistics.distance_of (sum (λ t. t.1.pulses) (ticks_of ds)) per_km
  pub counted : r.latchings
      ≡ min 65535 (latchings UV (ds ++ (handed ∷ k))) + min 65535 (latchings OV (ds ++ (handed ∷ k)))
      + min 65535 (latchings DOC (ds ++ (handed ∷ k)))
      + min 65535 (latchings COC (ds ++ (handed ∷ k)) + latchings ROC (ds ++ (handed ∷ k)))
      + min 65535 (latchings OT (ds ++ (handed ∷ k)))

pub from_zero : (cells per_km number : ℕ) (ds k : List Deed) → per_km ≤ 65535 → any clears ds ≡ false
    → OfTheNextRider ds k per_km (record_for (board_at cells per_km (ds ++ (handed ∷ k))) number)
unfolding board_at clock_at statistics_at statistics.bill_of distance_at seconds_at
from_zero cells per_km number ds k held e =
    let ticks = since_handed ds k e in
    record {
      seconds = ap (λ (h : List Deed). seconds_at (ds ++ (handed ∷ k)) - seconds_at h) (from_handed ds k e);
      positive = ap (λ l. min statistics.largest_sum (sum (λ t. above t.1.current) l)) ticks;
      negative = ap (λ l. min statistics.largest_sum (sum (λ t. below t.1.current) l)) ticks;
      distance =
          distance_shown per_km (ds ++ (handed ∷ k)) held
          ∙ ap (λ l. statistics.distance_of (sum (λ t. t.1.pulses) l) per_km) ticks;
      counted = refl;
    }

-- ---- the seconds of a record do not stop at 0: no board was cleared later than it lived

more_ticks : (d : Deed) (h : List Deed) → count_at h ≤ count_at (d ∷ h)
more_ticks d h = let l = length-append (row d).ticks (each ticking (since never h)) in omega (arith, l)

count_from : (h : List Deed) → count_at (from clears h) ≤ count_at h
count_from [] = omega arith
count_from (d ∷ h) = go (clears d) (count_from h)
  where
    go : (t : Bool) → count_at (from clears h) ≤ count_at h → count_at (cond t (d ∷ h) (from clears h)) ≤ count_at (d ∷ h)
    go true i = omega arith
    go false i = let m = more_ticks d h in omega arith

pub cleared_before : (cells per_km : ℕ) (h : List Deed)
    → (board_at cells per_km h).hire.statistics.cleared ≤ (board_at cells per_km h).pack.clock.seconds
unfolding board_at statistics_at clock_at seconds_at
cleared_before cells per_km h = let m = count_from h in omega arith
