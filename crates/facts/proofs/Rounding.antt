-- W-206. Registers 40 and 41, and commands 0x16 and 0x17, round to the nearest mV; protections, statistics and balancing are unchanged.
-- The rules of document 01 on cells, currents and temperatures are written again from the paper in cells, guard and statistics (their
-- proofs/Document01), with no definition of ours that might round; here an accepted tick is shown to keep to them, of the cells in 0.1 mV
-- that are given to it. Beside our board stands the one that rounds down. Its state is the account of its calls, which is made of these
-- rules, so from any start and through any calls both are in one state (settings, latches, waits, events, statistics, bits, switches), give
-- the same outcomes, switches and bits, and the same replies but for the words of registers 40 and 41: only a reply rounds.
-- Assumes nothing.
use Rattle.std.specs.Prelude.{Err, Ok, Some}
use mathlib.Core.Path.{◌≡◌, refl, sym, ap, ◌∙◌, subst⁻¹}
use mathlib.Core.Bool.{◌||◌, cond}
use mathlib.Core.List.{List, [], ◌∷◌, ◌++◌, reverse, reverse_aux}
use Prim.Native.Nat.{ℕ, ◌+◌, ◌*◌, ◌-◌, ◌/◌, ◌<◌, max}
use native.Mathlib.Omega.{arith}
use borrow.Author.Tests.{ne_eqb}
use lib.Dec.{eqb}
use lib.ListN.{length, take, drop}
use Rattle.refusals.specs.declared.Refusal.TheVariants.{NoBoard}
use Rattle.refusals.specs.Refusals.{Done, Refused}
use Rattle.numbers.specs.Numbers.{le16}
use Rattle.replies.specs.Replies.{word16, words, sealed}
use Rattle.requests.specs.declared.Query.{Query}
use Rattle.requests.specs.declared.Query.TheVariants.{Registers, Listed, Bare, NewEvents, AllEvents, Temperatures, Cells, SettingsOf}
use Rattle.requests.specs.declared.Request.TheVariants as request
use Rattle.requests.specs.Requests.{address_at, request_of, Asked}
use Rattle.requests.proofs.Sound.{named_by, register_in}
use Rattle.cells.specs.declared.Extremes.{Extremes}
use Rattle.cells.specs.Cells.{extremes_of}
use Rattle.cells.proofs.Document01.{lowest, highest, register51, extremes, decisions}
use Rattle.readings.specs.declared.Readings.{Readings}
use Rattle.guard.proofs.Document01 as guard
use Rattle.statistics.proofs.Document01 as statistics
use Rattle.pack.specs.declared.Pack.{Pack}
use Rattle.pack.specs.Pack.{usable_count}
use Rattle.hire.specs.Hire.{new_hire}
use Rattle.hire.specs.Registers.{reading_register}
use Rattle.answers.specs.Registers.{shown_at, value_at}
use Rattle.answers.specs.Answers.{cells_of, with_register, body_by, body_of, accepted_reply}
use Rattle.board.specs.declared.Board.{Board}
use Rattle.board.specs.Tick.{ticked_of}
use Rattle.board.specs.Line.{held_in}
use Rattle.board.specs.Calls.{Call, Seen, tick, frame, fetch, Lent, nothing_lent, reply_lent, area_lent, shape, board_by, seen_of}
use Rattle.board.specs.Calls.{outcome_in, step}
use Rattle.board.specs.Behaviour.{Behaviour, board, after_in}
use Rattle.board.specs.Account.{board_at, deeds_of}
use Rattle.board.specs.Demands.{told, reached}
use Rattle.board.proofs.Opened.{steps}
use Rattle.board.proofs.Demands.Demand2.{account, as_told}
use Rattle.facts.proofs.ReadsBack.{word_at, entry_at, words_same, listed_same}

-- ---- a tick by document 01's rules, as proofs/Document01 of each crate has them, of the cells that are given to it

module _ (b : Board) (given : List ℕ) (r : Readings) where
  -- what an accepted tick leaves
  abbrev ticked : Board
  ticked = ticked_of b given r

  pub accepted : outcome_in b (tick given r) ≡ Done → (step b (tick given r)).0 ≡ ticked
  unfolding shape board_by
  accepted done = ap (board_by b (shape (tick given r))) done

  -- lowest and highest cell, in 0.1 mV
  abbrev read : Extremes
  read = record { lowest = lowest given; highest = highest given }

  -- a register of the board before it and after it
  abbrev before : ℕ → ℕ
  before at = value_at b.pack b.hire at

  abbrev after : ℕ → ℕ
  after at = value_at ticked.pack ticked.hire at

  pub protections : ticked.pack.guard ≡ guard.after b.pack.settings r read b.pack.guard
  unfolding steps
  protections =
      guard.ticked b.pack.settings r (extremes_of given) b.pack.guard
      ∙ ap (λ (e : Extremes). guard.after b.pack.settings r e b.pack.guard) (extremes given)

  pub decision : after 51 ≡ register51 b.pack.settings.r303 b.pack.settings.r308 given
  unfolding steps value_at shown_at reading_register
  decision = decisions b.pack.settings.r303 b.pack.settings.r308 given

  -- register 52 equals 51 in status 0x91 or 0x96 or with OV latched, else 0
  pub balancing : after 52 ≡ cond (eqb (after 50) 0x91 || eqb (after 50) 0x96 || ticked.pack.guard.latched.ov) (after 51) 0
  unfolding steps value_at shown_at reading_register
  balancing = refl

  pub largest_drawn : after 102 ≡ max (before 102) (statistics.drawn r.current)
  unfolding steps value_at shown_at
  largest_drawn = statistics.largest_drawn b.hire.statistics r.pulses r (extremes_of given) _ _ _ _

  pub largest_fed : after 103 ≡ max (before 103) (statistics.fed r.current)
  unfolding steps value_at shown_at
  largest_fed = statistics.largest_fed b.hire.statistics r.pulses r (extremes_of given) _ _ _ _

  pub largest_difference : after 104 ≡ max (before 104) (highest given - lowest given)
  unfolding steps value_at shown_at
  largest_difference =
      statistics.largest_difference b.hire.statistics r.pulses r (extremes_of given) _ _ _ _
      ∙ ap (λ (e : Extremes). max (before 104) (e.highest - e.lowest)) (extremes given)

  pub temperatures :
      after 113
      ≡ statistics.register113
      (statistics.with_external (statistics.with_external b.hire.statistics.temperatures r.external1) r.external2)
  unfolding steps value_at shown_at
  temperatures =
      statistics.shown ticked.hire.statistics b.pack.per_km
      ∙ ap statistics.register113 (statistics.temperatures b.hire.statistics r.pulses r (extremes_of given) _ _ _ b.pack.per_km)

-- ---- the board that rounds down

-- a register as it shows it
abbrev pub value_down : Board → ℕ → ℕ
value_down b at =
    cond (eqb at 40) (b.hire.sensed.extremes.lowest / 10)
    (cond (eqb at 41) (b.hire.sensed.extremes.highest / 10) (value_at b.pack b.hire at))

-- a reply with those registers; all else as document 01 still has it
unfoldable pub request_down : Board → List ℕ → Asked → List ℕ
request_down b s (Err refusal) = accepted_reply b.pack b.hire s (Err refusal)
request_down b s (Ok request.ClearEvents) = accepted_reply b.pack b.hire s (Ok request.ClearEvents)
request_down b s (Ok request.ClearStatistics) = accepted_reply b.pack b.hire s (Ok request.ClearStatistics)
request_down b s (Ok (request.Write f n)) = accepted_reply b.pack b.hire s (Ok (request.Write f n))
request_down b s (Ok (request.Read q)) = sealed (body_by b.pack b.hire (value_down b) s q)

-- what a call leaves of a reply buffer with that reply; all else that is lent as ours
abbrev pub lent_down : Board → Lent → Lent
lent_down b nothing_lent = nothing_lent
lent_down b (reply_lent s room reply) = reply_lent s room (request_down b s (request_of s))
lent_down b (area_lent area) = area_lent area

unfoldable pub buffer_down : Board → Call → List ℕ
buffer_down b c = seen_of (lent_down b ((shape c).lent b)) (outcome_in b c)

-- its state is the start numbers and the calls so far, newest first; the board that the paper works out from them
abbrev pub History : Type 0
History = ℕ × ℕ × List Call

abbrev pub board_in : History → Board
board_in h = board_at h.0 h.1 (deeds_of h.0 h.1 h.2)

-- and it shows what the paper tells, with its own buffer
abbrev pub shown_down : History → Call → Seen
shown_down h c =
    let a = told h.0 h.1 h.2 c in
    record {
      outcome = a.outcome;
      buffer = buffer_down (board_in h) c;
      carried = a.carried;
      charge = a.charge;
      discharge = a.discharge;
      decision = a.decision;
      balancing = a.balancing;
    }

abbrev pub rounding_down : Behaviour
rounding_down =
    record {
      State = History;
      start = λ cells per_km. (cells, per_km, []);
      started = λ cells per_km. cond (usable_count cells) Done (Refused NoBoard);
      step = λ h c. ((h.0, h.1, c ∷ h.2), shown_down h c);
    }

-- ---- unchanged

-- what a call comes to, the count of taken bytes, the switches and the bits
pub record Shows (a d : Seen) : Type 0 where
  pub outcome : a.outcome ≡ d.outcome
  pub carried : a.carried ≡ d.carried
  pub charge : a.charge ≡ d.charge
  pub discharge : a.discharge ≡ d.discharge
  pub decision : a.decision ≡ d.decision
  pub balancing : a.balancing ≡ d.balancing

remembered : (cells per_km : ℕ) (h cs : List Call) → after_in rounding_down (cells, per_km, h) cs ≡ (cells, per_km, reverse_aux cs h)
unfolding after_in
remembered cells per_km h [] = refl
remembered cells per_km h (c ∷ cs) = remembered cells per_km (c ∷ h) cs

module _ (cells per_km : ℕ) (cs : List Call) where
  abbrev ours : Board
  ours = reached board cells per_km cs

  abbrev theirs : History
  theirs = reached rounding_down cells per_km cs

  -- the state, through any calls: settings, latches, waits, events, statistics, bits, switches
  pub same_state : ours ≡ board_in theirs
  same_state = account cells per_km cs ∙ sym (ap board_in (remembered cells per_km [] cs))

  -- what is shown at the next
  pub same_shown : (c : Call) → Shows (board.step ours c).1 (rounding_down.step theirs c).1
  same_shown c =
      subst⁻¹ (λ (h : History). Shows (step ours c).1 (shown_down h c)) (remembered cells per_km [] cs)
      (subst⁻¹ (λ (b : Board). Shows (step b c).1 (shown_down (cells, per_km, reverse cs) c)) (account cells per_km cs)
      (subst⁻¹ (λ (a : Seen). Shows a (shown_down (cells, per_km, reverse cs) c)) (as_told cells per_km (reverse cs) c)
      (record { outcome = refl; carried = refl; charge = refl; discharge = refl; decision = refl; balancing = refl })))

-- every register but 40 and 41
pub same_value : (b : Board) (at : ℕ) → (at ≡ 40 → ⊥) → (at ≡ 41 → ⊥) → value_down b at ≡ value_at b.pack b.hire at
same_value b at lowest highest = rw (ne_eqb at 40 lowest, ne_eqb at 41 highest)

-- so every word of a reply's data but theirs: the i-th word of a row of registers from `at` on
pub other_words : (b : Board) (bytes : ℕ → List ℕ) (at n i : ℕ) → ((w : ℕ) → length (bytes w) ≡ 2)
    → i < n → (at + i ≡ 40 → ⊥) → (at + i ≡ 41 → ⊥)
    → take 2 (drop (2 * i) (words bytes (value_down b) at n)) ≡ take 2 (drop (2 * i) (words bytes (value_at b.pack b.hire) at n))
other_words b bytes at n i two l lowest highest =
    word_at 2 bytes (value_down b) at n i two l
    ∙ ap bytes (same_value b (at + i) lowest highest)
    ∙ sym (word_at 2 bytes (value_at b.pack b.hire) at n i two l)

-- of a 0x09 list that names 40 or 41 among others, every other entry: its address and its register
pub other_entries : (b : Board) (s : List ℕ) (n i : ℕ) → i < n → (address_at s i ≡ 40 → ⊥) → (address_at s i ≡ 41 → ⊥)
    → take 4 (drop (4 * i) (words (with_register (value_down b)) (address_at s) 0 n))
    ≡ take 4 (drop (4 * i) (words (with_register (value_at b.pack b.hire)) (address_at s) 0 n))
other_entries b s n i l lowest highest =
    entry_at (value_down b) s n i l
    ∙ ap (λ (v : ℕ). le16 (address_at s i) ++ le16 v) (same_value b (address_at s i) lowest highest)
    ∙ sym (entry_at (value_at b.pack b.hire) s n i l)

-- and the whole reply to a query that names neither, to the byte
abbrev Neither : List ℕ → Query → Type 0
Neither s q = (i : ℕ) → i < named_by q → (register_in s q i ≡ 40 → ⊥) × (register_in s q i ≡ 41 → ⊥)

same_body : (b : Board) (s : List ℕ) (q : Query) → Neither s q
    → body_by b.pack b.hire (value_down b) s q ≡ body_of b.pack b.hire s q
unfolding body_by named_by register_in
same_body b s q away = go q away
  where
    same : (at : ℕ) → (at ≡ 40 → ⊥) × (at ≡ 41 → ⊥) → value_down b at ≡ value_at b.pack b.hire at
    same at other = same_value b at other.0 other.1

    go : (q : Query) → Neither s q → body_by b.pack b.hire (value_down b) s q ≡ body_of b.pack b.hire s q
    go (Registers command at n) away =
        ap (λ (l : List ℕ). 0xAA ∷ command ∷ 2 * n ∷ l)
        (words_same (word16 (eqb command 0x03)) (value_down b) (value_at b.pack b.hire) at n (λ i k. same (at + i) (away i k)))
    go (Listed n) away =
        ap (λ (l : List ℕ). 0xAA ∷ 0x09 ∷ 4 * n ∷ l)
        (listed_same (value_down b) (value_at b.pack b.hire) (address_at s) n (λ i k. same (address_at s i) (away i k)))
    go (Bare command at n) away =
        ap (λ (l : List ℕ). 0xAA ∷ command ∷ l)
        (words_same le16 (value_down b) (value_at b.pack b.hire) at n (λ i k. same (at + i) (away i k)))
    go NewEvents away = refl
    go AllEvents away = refl
    go Temperatures away = refl
    go Cells away =
        ap (λ (l : List ℕ). 0xAA ∷ 0x1C ∷ 2 * cells_of b.pack ∷ l)
        (words_same le16 (value_down b) (value_at b.pack b.hire) 0 (cells_of b.pack)
        (λ i k. same (0 + i) ((λ e. omega arith), (λ e. omega arith))))
    go (SettingsOf kind n) away = refl

-- of an accepted request, on a board that shows b
same_reply_of : (b : Board) (s : List ℕ) → ((q : Query) → request_of s ≡ Ok (request.Read q) → Neither s q)
    → request_down b s (request_of s) ≡ accepted_reply b.pack b.hire s (request_of s)
unfolding request_down accepted_reply
same_reply_of b s away = same (request_of s) refl
  where
    same : (q : Asked) → request_of s ≡ q → request_down b s q ≡ accepted_reply b.pack b.hire s q
    same (Err refusal) e = refl
    same (Ok request.ClearEvents) e = refl
    same (Ok request.ClearStatistics) e = refl
    same (Ok (request.Write f n)) e = refl
    same (Ok (request.Read q)) e = ap sealed (same_body b s q (away q e))

pub same_reply : (cells per_km : ℕ) (cs : List Call) (s : List ℕ) (room : ℕ) → ((q : Query) → request_of s ≡ Ok (request.Read q) → Neither s q)
    → (board.step (ours cells per_km cs) (frame s room)).1.buffer ≡ (rounding_down.step (theirs cells per_km cs) (frame s room)).1.buffer
unfolding shape buffer_down
same_reply cells per_km cs s room away =
    let b = ours cells per_km cs in
    ap (λ (reply : List ℕ). seen_of (reply_lent s room reply) (outcome_in b (frame s room))) (sym (same_reply_of b s away))
    ∙ ap (λ (b : Board). buffer_down b (frame s room)) (same_state cells per_km cs)

-- by a fetch too
pub same_fetched : (cells per_km : ℕ) (cs : List Call) (room : ℕ)
    → ((q : Query) → request_of (held_in (ours cells per_km cs)) ≡ Ok (request.Read q) → Neither (held_in (ours cells per_km cs)) q)
    → (board.step (ours cells per_km cs) (fetch room)).1.buffer ≡ (rounding_down.step (theirs cells per_km cs) (fetch room)).1.buffer
unfolding shape buffer_down
same_fetched cells per_km cs room away =
    let b = ours cells per_km cs in
    ap (λ (reply : List ℕ). seen_of (reply_lent (held_in b) room reply) (outcome_in b (fetch room))) (sym (same_reply_of b (held_in b) away))
    ∙ ap (λ (b : Board). buffer_down b (fetch room)) (same_state cells per_km cs)

-- ---- 0 before the first tick and after a handover, as before

pub none_read : (p : Pack)
    → (shown_at p (new_hire p.clock.seconds) 40 ≡ Some 0) × (shown_at p (new_hire p.clock.seconds) 41 ≡ Some 0)
unfolding shown_at reading_register new_hire
none_read p = (refl, refl)
