-- W-205 and W-207: the event numbers that a load takes are exactly those that ticks record, so the kept events of every board reached from
-- a start have such numbers; so a save followed by a load, into that board or any other, gives the same list with everything marked as
-- sent, and a load followed by a save gives the area back.
-- Assumes nothing.
use Rattle.refusals.proofs.Rows.{come_to_giving}
use Rattle.refusals.specs.declared.Refusal.{Refusal}
use Rattle.std.specs.Prelude.{Result, Ok, Err}
use mathlib.Core.Path.{◌≡◌, refl, sym, ap, ◌∙◌, subst, subst⁻¹}
use mathlib.Core.Bool.{Bool, true, false, ◌&&◌, not, cond, false≢true}
use mathlib.Core.List.{List, [], ◌∷◌, ◌++◌, map, reverse, append-nil, append_assoc}
use Prim.Native.Nat.{ℕ, zero, suc, ◌-◌, ◌≤◌, min}
use native.Mathlib.Omega.{arith}
use lib.Dec.{eqb}
use lib.IntN.{pos, negsuc}
use lib.ListN.{length, take, drop, get_or, replicate, length-take, length-reverse}
use Rattle.crc.specs.Crc.{crc_of}
use Rattle.numbers.specs.Numbers.{le16_at}
use Rattle.refusals.specs.declared.Refusal.TheVariants.{NoBoard, WrongArea, UsedAfterUnused, NeverRecorded}
use Rattle.refusals.specs.Refusals.{Outcome, Done, Refused, is_done, first, come_to, giving}
use Rattle.laws.specs.History.{since, from, each, any, latest}
use Rattle.laws.proofs.Lists.{latest_few, length_latest}
use Rattle.events.specs.declared.Event.{Event}
use Rattle.events.specs.declared.Events.{Events}
use Rattle.events.specs.Events.{capacity, event_at, number_of, no_event, kept_of, new_of, sent_of}
use Rattle.events.specs.Area.{area_length, old_length, recorded_numbers, is_in, is_recorded, never_recorded, used, used_of, area_of}
use Rattle.events.specs.Area.{kept_after}
use Rattle.events.specs.Area.{load_rows, list_of, events_in, load_of}
use Rattle.events.proofs.Saved.{unrecorded, Bytes, whole_of, whole_same, save_load, same_kept, none_new, load_save, old_loads}
use Rattle.guard.specs.declared.Conditions.{Conditions}
use Rattle.guard.specs.declared.Condition.{Condition}
use Rattle.guard.specs.declared.Condition.TheVariants.{UV, OV, OT, DOC, COC, ROC, LT}
use Rattle.guard.specs.Table.{latches, recovers, latch_event, recovery_event, event_of}
use Rattle.hire.specs.Tick.{charger_event, events_of}
use Rattle.pack.specs.Pack.{usable_count}
use Rattle.readings.specs.declared.Readings.{Readings}
use Rattle.board.specs.declared.Board.{Board}
use Rattle.board.specs.State.{usable, with_events}
use Rattle.board.specs.Start.{start_board}
use Rattle.board.specs.declared.Answer.{Answer}
use Rattle.board.specs.Line.{let_go}
use Rattle.board.specs.Calls.{Call, Seen, frame, save, load, shape, outcome_of, board_by, seen_of}
use Rattle.board.specs.Calls.{outcome_in, board_after, buffer_after, answer_to, step}
use Rattle.board.specs.Behaviour.{board, answers_in}
use Rattle.board.specs.Demands.{deeds, reached}
use Rattle.board.specs.Account.{Deed, took, wrote, cleared, forgot, sent, handed, heard, fetched, loaded, forgets}
use Rattle.board.specs.Account.{some_event, newest_first, numbers_of, recorded_now, loading, kept_since, events_at}
use Rattle.board.specs.Account.{seconds_at, latched_at, charger_at, board_at, deeds_of}
use Rattle.board.proofs.Account.Deeds.{May, after_calls}
use Rattle.board.proofs.Shape.{by_rows, answered, none, holds_on, unchanging}
use Rattle.board.proofs.Account.Shown.{kept_shown}
use Rattle.board.proofs.Demands.Demand2.{account}
use Rattle.board.proofs.Opened.{opened}
use Rattle.facts.proofs.Calls.{flow, events, handing}
use Rattle.facts.proofs.Invariants.{All, all_append, all_reversed}
use Rattle.facts.proofs.Ticks.{fresh, after, storm, still, alternately, recorded}

-- ---- each number in the list is recorded by a tick: all of them in one history, computed

abbrev every : List ℕ
every = 0x64 ∷ 0x02 ∷ 0x03 ∷ 0x04 ∷ 0x05 ∷ 0x37 ∷ 0x06 ∷ 0x65 ∷ 0x07 ∷ 0x7B ∷ 0x79 ∷ 0x73 ∷ 0x74 ∷ 0x77 ∷ 0x76 ∷ 0x78 ∷ []

pub all_recorded :
    (recorded (after fresh (storm (negsuc 59999) true ∷ storm (pos 30000) true ∷ storm (pos 30000) false ∷ replicate 50 still)) ≡ every)
    × (any (λ n. not (is_in n every)) recorded_numbers ≡ false)
unfolding recorded fresh after storm still
all_recorded = (refl, refl)

-- ---- and no other

latch_known : (c : Condition) → is_recorded (latch_event c) ≡ true
unfolding is_recorded latch_event
latch_known UV = refl
latch_known OV = refl
latch_known OT = refl
latch_known DOC = refl
latch_known COC = refl
latch_known ROC = refl
latch_known LT = refl

recovery_known : (c : Condition) → is_recorded (recovery_event c) ≡ true
unfolding is_recorded recovery_event
recovery_known UV = refl
recovery_known OV = refl
recovery_known OT = refl
recovery_known DOC = refl
recovery_known COC = refl
recovery_known ROC = refl
recovery_known LT = refl

-- an event whose number the board records
abbrev pub Known : Event → Type 0
Known e = unrecorded e ≡ false

module _ (seconds : ℕ) where
  -- what is noted at that time under those numbers
  abbrev Noted : List ℕ → Type 0
  Noted ns = All Known (map (event_at seconds) ns)

  one_noted : (n : ℕ) → is_recorded n ≡ true → Noted (some_event n)
  one_noted n e = go (eqb n 0)
    where
      number_back : number_of (event_at seconds n) ≡ n
      number_back = omega arith

      go : (t : Bool) → Noted (cond t [] (n ∷ []))
      go true = tt
      go false = (ap (λ (m : ℕ). not (is_recorded m)) number_back ∙ ap not e, tt)

  condition_noted : (before after : Conditions) (c : Condition) → Noted (some_event (event_of before after c))
  unfolding event_of
  condition_noted before after c = go (latches before after c) (recovers before after c)
    where
      go : (t u : Bool) → Noted (some_event (cond t (latch_event c) (cond u (recovery_event c) 0)))
      go true u = one_noted (latch_event c) (latch_known c)
      go false true = one_noted (recovery_event c) (recovery_known c)
      go false false = tt

  charger_noted : (was now : Bool) → Noted (some_event (charger_event was now))
  unfolding is_recorded
  charger_noted true true = tt
  charger_noted true false = one_noted 0x65 refl
  charger_noted false true = one_noted 0x64 refl
  charger_noted false false = tt

  both_noted : (ns ms : List ℕ) → Noted ns → Noted ms → Noted (ns ++ ms)
  both_noted [] ms p q = q
  both_noted (n ∷ ns) ms p q = (p.0, both_noted ns ms p.1 q)

  all_noted : (ns : List ℕ) → All (λ n. Noted (some_event n)) ns → Noted (newest_first ns)
  all_noted [] p = tt
  all_noted (n ∷ ns) p = both_noted (newest_first ns) (some_event n) (all_noted ns p.1) p.0

  pub tick_noted : (before after : Conditions) (was now : Bool) → Noted (numbers_of before after was now)
  unfolding events_of
  tick_noted before after was now =
      let one : (c : Condition) → Noted (some_event (event_of before after c)) = condition_noted before after in
      all_noted (events_of was now before after)
      (charger_noted was now, (one UV, (one OV, (one OT, (one DOC, (one COC, (one ROC, (one LT, tt))))))))

-- ---- so of every board reached from a start

-- what an accepted area has
used_known : (rs : List Event) → any never_recorded rs ≡ false → All Known (used_of rs)
unfolding used_of
used_known [] h = tt
used_known (r ∷ rs) h = go (used r) (unrecorded r) refl h (used_known rs)
  where
    go : (t n : Bool) → unrecorded r ≡ n → cond (t && n) true (any never_recorded rs) ≡ false
        → (any never_recorded rs ≡ false → All Known (used_of rs)) → All Known (cond t (r ∷ used_of rs) [])
    go true true e h i = absurd (false≢true (sym h))
    go true false e h i = (e, i h)
    go false n e h i = tt

abbrev KeptKnown : List Deed → Type 0
KeptKnown h = All Known (kept_since h)

ticked_known : (given : List ℕ) (r : Readings) (h : List Deed) → KeptKnown h → KeptKnown (took given r ∷ h)
ticked_known given r h p =
    let now = took given r ∷ h in
    let ns = numbers_of (latched_at h) (latched_at now) (charger_at h) r.charger in
    let es = map (event_at (seconds_at now)) ns in
    let q : All Known (es ++ []) =
    subst⁻¹ (All Known) (append-nil es) (tick_noted (seconds_at now) (latched_at h) (latched_at now) (charger_at h) r.charger) in
    subst⁻¹ (All Known) (append_assoc (es ++ []) (each recorded_now (since forgets h)) (reverse (loading (from forgets h))))
    (all_append Known (es ++ []) (kept_since h) q p)

kept_known_so : (cells per_km : ℕ) (d : Deed) (k : List Deed) → May cells per_km k d → KeptKnown k → KeptKnown (d ∷ k)
kept_known_so cells per_km (took given r) k m p = ticked_known given r k p
kept_known_so cells per_km (wrote ps) k m p = p
kept_known_so cells per_km cleared k m p = p
kept_known_so cells per_km forgot k m p = tt
kept_known_so cells per_km sent k m p = p
kept_known_so cells per_km handed k m p = tt
kept_known_so cells per_km (heard bytes) k m p = p
kept_known_so cells per_km fetched k m p = p
kept_known_so cells per_km (loaded es) k m p =
    all_reversed Known es [] (subst⁻¹ (All Known) m.1 (used_known m.0 m.2)) tt

pub known_since : (cells per_km : ℕ) (cs : List Call) → KeptKnown (deeds_of cells per_km cs)
known_since cells per_km cs = after_calls cells per_km KeptKnown (kept_known_so cells per_km) tt cs

-- ---- a save followed by a load

all_first : (n : ℕ) (es : List Event) → All Known es → All Known (take n es)
all_first zero es p = tt
all_first (suc n) [] p = tt
all_first (suc n) (e ∷ es) p = (p.0, all_first n es p.1)

all_known : (es : List Event) → All Known es → any unrecorded es ≡ false
all_known [] p = refl
all_known (e ∷ es) p = ap (λ (t : Bool). cond t true (any unrecorded es)) p.0 ∙ all_known es p.1

-- the places of the account: those before the kept ones are empty, so a load gives all of it back
latest_first : (n : ℕ) (es : List Event) → latest n no_event es ≡ latest n no_event (take n es)
latest_first zero es = refl
latest_first (suc n) [] = refl
latest_first (suc n) (e ∷ es) = ap (λ (l : List Event). l ++ (e ∷ [])) (latest_first n es)

-- the area of e loads as the same list, everything marked as sent
abbrev Back : Events → Type 0
Back e = (load_of (area_of e) ≡ Ok (sent_of e)) × (kept_of (sent_of e) ≡ kept_of e) × (new_of (sent_of e) ≡ [])

module _ (h : List Deed) (known : KeptKnown h) where
  abbrev kept : List Event
  kept = take capacity (kept_since h)

  kept_known : any unrecorded (kept_of (events_at h)) ≡ false
  kept_known =
      ap (any unrecorded) (kept_shown h)
      ∙ all_known (reverse kept) (all_reversed Known kept [] (all_first capacity (kept_since h) known) tt)

  places : length (events_at h).list ≡ capacity
  unfolding events_at
  places = length_latest capacity no_event (kept_since h)

  all_sent : list_of (kept_of (events_at h)) ≡ sent_of (events_at h)
  unfolding events_at sent_of
  all_sent =
      let few = length-take capacity (kept_since h) in
      let many = length-reverse kept in
      let list : replicate (capacity - length (reverse kept)) no_event ++ reverse kept ≡ latest capacity no_event (kept_since h) =
      ap (λ (n : ℕ). replicate (capacity - n) no_event ++ reverse kept) many
      ∙ sym (latest_first capacity (kept_since h) ∙ latest_few capacity no_event kept (omega arith)) in
      let count : length (reverse kept) ≡ min capacity (length (kept_since h)) = omega arith in
      ap list_of (kept_shown h) ∙ (λ i. record { list = list i; kept = count i; unsent = 0 })

  account_loads : Back (events_at h)
  account_loads = (
    save_load (events_at h) places kept_known ∙ ap Ok all_sent,
    ap kept_of (sym all_sent) ∙ same_kept (events_at h) places kept_known,
    ap new_of (sym all_sent) ∙ none_new (events_at h) places kept_known,
  )

-- what a save and a load do on a usable board
saves : (b : Board) → usable b ≡ true → buffer_after b (save area_length) ≡ area_of b.hire.events
unfolding shape outcome_of first seen_of
saves b some = rw some refl

-- the answer of that, with the events after it
abbrev answer_by : Board → Result Events Refusal → Answer
answer_by b l = record { outcome = come_to l; board = with_events b (kept_after b.hire.events l) }

loads : (b : Board) (area : List ℕ) → usable b ≡ true → answer_to b (load area) ≡ answer_by b (load_of area)
unfolding shape load_of board_by
loads b area some =
    let o = first (load_rows area) in
    sym (answered b (load area) (come_to (load_of area)) _ (come_to_giving o (list_of (events_in area)) ∙ sym (by_rows b (shape (load area)) some))
    (go o
    ∙ ap (λ (t : Bool). cond (is_done o) (with_events b (list_of (events_in area))) (cond t (let_go b) b))
    (sym (holds_on b (shape (load area)) o refl))
    ∙ ap (board_by b (shape (load area))) (sym (come_to_giving o (list_of (events_in area))))))
  where
    go : (o : Outcome) → with_events b (kept_after b.hire.events (giving o (list_of (events_in area)))) ≡ cond (is_done o) (with_events b (list_of (events_in area))) b
    go (Ok done) = refl
    go (Err refusal) = refl

module _ (cells per_km : ℕ) (cs : List Call) (some : usable_count cells ≡ true) where
  abbrev now : Board
  now = reached board cells per_km cs

  -- after any calls: every kept event has a number that ticks record, and a save writes the area whole
  pub known_after : any unrecorded (kept_of now.hire.events) ≡ false
  unfolding board_at
  known_after =
      subst⁻¹ (λ (b : Board). any unrecorded (kept_of b.hire.events) ≡ false) (account cells per_km cs)
      (kept_known (deeds cells per_km cs) (known_since cells per_km (reverse cs)))

  usable_now : usable now ≡ true
  unfolding board_at
  usable_now = ap usable (account cells per_km cs) ∙ some

  pub saved : (step now (save area_length)).1.buffer ≡ area_of now.hire.events
  saved = saves now usable_now

  -- any usable board, of this pack or another, loads it: done, and it is that board with the same list, everything marked as sent
  module _ (other : Board) (some-other : usable other ≡ true) where
    abbrev loading_it : Board × Seen
    loading_it = step other (load (step now (save area_length)).1.buffer)

    pub save_then_load :
        (loading_it.1.outcome ≡ Done)
        × (loading_it.0 ≡ with_events other (sent_of now.hire.events))
        × (kept_of loading_it.0.hire.events ≡ kept_of now.hire.events)
        × (new_of loading_it.0.hire.events ≡ [])
    unfolding board_at
    save_then_load =
        let back : Back now.hire.events =
        subst⁻¹ (λ (b : Board). Back b.hire.events) (account cells per_km cs)
        (account_loads (deeds cells per_km cs) (known_since cells per_km (reverse cs))) in
        let told = ap (λ (bytes : List ℕ). answer_to other (load bytes)) saved
        ∙ loads other (area_of now.hire.events) some-other
        ∙ ap (answer_by other) back.0 in
        let board-is = ap (λ (a : Answer). a.board) told in (
          ap (λ (a : Answer). a.outcome) told,
          board-is,
          ap (λ (b : Board). kept_of b.hire.events) board-is ∙ back.1,
          ap (λ (b : Board). new_of b.hire.events) board-is ∙ back.2,
        )

-- ---- a load followed by a save gives the area back, an old one with unused records after it, of any usable board

area_bytes : (area : List ℕ) → All (λ byte. byte ≤ 255) area → Bytes area
area_bytes [] p i = omega arith
area_bytes (byte ∷ area) p zero = let most = p.0 in omega arith
area_bytes (byte ∷ area) p (suc i) = area_bytes area p.1 i

pub load_then_save_whole : (b : Board) (area : List ℕ) → usable b ≡ true → All (λ byte. byte ≤ 255) area → first (load_rows area) ≡ Done
    → (step (step b (load area)).0 (save area_length)).1.buffer ≡ whole_of area
load_then_save_whole b area some bytes done =
    let after = ap (λ (a : Answer). a.board) (loads b area some) in
    ap (λ (x : Board). buffer_after x (save area_length)) after
    ∙ saves (answer_by b (load_of area)).board some
    ∙ load_save area done (area_bytes area bytes) b.hire.events

pub load_then_save : (b : Board) (area : List ℕ) → usable b ≡ true → All (λ byte. byte ≤ 255) area → first (load_rows area) ≡ Done
    → length area ≡ area_length → (step (step b (load area)).0 (save area_length)).1.buffer ≡ area
load_then_save b area some bytes done long = load_then_save_whole b area some bytes done ∙ whole_same area long

-- ---- an old area loads as the area it makes with unused records after it, whatever the board

pub old_load : (b : Board) (old : List ℕ) → length old ≡ old_length
    → answer_to b (load old) ≡ answer_to b (load (old ++ replicate (area_length - old_length) 0xFF))
old_load b old h = go (usable b) refl
  where
    whole : List ℕ
    whole = old ++ replicate (area_length - old_length) 0xFF

    go : (t : Bool) → usable b ≡ t → answer_to b (load old) ≡ answer_to b (load (old ++ replicate (area_length - old_length) 0xFF))
    go true u = loads b old u ∙ ap (answer_by b) (old_loads old h) ∙ sym (loads b whole u)
    go false u = sym (none b (load old) (Refused NoBoard) refl u) ∙ none b (load whole) (Refused NoBoard) refl u

-- ---- a load changes the events alone; a save changes nothing

pub only_events : (b : Board) (area : List ℕ) → (step b (load area)).0 ≡ with_events b (step b (load area)).0.hire.events
only_events b area = go (usable b) refl
  where
    go : (t : Bool) → usable b ≡ t → board_after b (load area) ≡ with_events b (board_after b (load area)).hire.events
    go true u = subst⁻¹ (λ (x : Board). x ≡ with_events b x.hire.events) (ap (λ (a : Answer). a.board) (loads b area u)) refl
    go false u =
        subst (λ (x : Board). x ≡ with_events b x.hire.events)
        (ap (λ (a : Answer). a.board) (none b (load area) (Refused NoBoard) refl u)) refl

pub nothing_saved : (b : Board) (n : ℕ) → (step b (save n)).0 ≡ b
unfolding shape
nothing_saved b n = sym (unchanging b (shape (save n)) (outcome_in b (save n)) refl refl)

-- ---- computed, on a new board of 4 cells: what each call comes to, and for a frame with events how many bytes of data the reply has

-- 0x11; 0x12 is `events`
abbrev new_events : Call
new_events = frame (0xAA ∷ 0x11 ∷ 0xBF ∷ 0x1C ∷ []) 259

abbrev answers : ℕ → List Call → List Seen
answers cells cs = answers_in board (start_board cells 2000) cs

abbrev told : List Seen → List (Outcome × ℕ)
told seen = map (λ a. (a.outcome, get_or a.buffer 2 0)) seen

-- an area with two events, and one with each kind of damage
abbrev area : List ℕ → List ℕ
area bytes = bytes ++ replicate (area_length - length bytes) 0xFF

abbrev two : List ℕ
two = area (5 ∷ 0 ∷ 0 ∷ 0x64 ∷ 6 ∷ 0 ∷ 0 ∷ 0x02 ∷ [])

-- a save leaves what is new new: one event, and 0x11 sends it after the save
pub save_marks_nothing :
    told (answers 4 (flow (pos 0) 0 true ∷ save area_length ∷ new_events ∷ new_events ∷ []))
    ≡ (Done, 0) ∷ (Done, 0) ∷ (Done, 8) ∷ (Done, 4) ∷ []
unfolding opened
save_marks_nothing = refl

-- after a load 0x11 sends none and 0x12 all; one more is recorded, and 0x11 sends it alone; after a handover there is none
pub load_marks_all :
    told (answers 4 (load two ∷ new_events ∷ events ∷ flow (pos 0) 0 true ∷ new_events ∷ events ∷ handing ∷ events ∷ []))
    ≡ (Done, 0) ∷ (Done, 4) ∷ (Done, 12) ∷ (Done, 0) ∷ (Done, 8) ∷ (Done, 16) ∷ (Done, 0) ∷ (Done, 4) ∷ []
unfolding opened
load_marks_all = refl

-- a load takes the place of what was there; one that is refused leaves it, what is new too; a refused save is seen as nothing
pub load_replaces :
    told (answers 4 (flow (pos 0) 0 true ∷ load two ∷ events ∷ load (area []) ∷ events ∷ []))
    ≡ (Done, 0) ∷ (Done, 0) ∷ (Done, 12) ∷ (Done, 0) ∷ (Done, 4) ∷ []
unfolding opened
load_replaces = refl

pub refused_loads :
    told
    (answers 4
    (flow (pos 0) 0 true ∷ load [] ∷ load (0xFF ∷ two) ∷ load (area (0xFF ∷ 0xFF ∷ 0xFF ∷ 0xFF ∷ 5 ∷ 0 ∷ 0 ∷ 0x01 ∷ []))
    ∷ load (area (5 ∷ 0 ∷ 0 ∷ 0x64 ∷ 6 ∷ 0 ∷ 0 ∷ 0x01 ∷ [])) ∷ new_events ∷ []))
    ≡ (Done, 0) ∷ (Refused WrongArea, 0) ∷ (Refused WrongArea, 0) ∷ (Refused UsedAfterUnused, 0)
    ∷ (Refused NeverRecorded, 0) ∷ (Done, 8) ∷ []
unfolding opened
refused_loads = refl

-- W-207: an old area loads as its events, all sent; a save into one is refused, and so is a load of another length
pub old_area :
    told
    (answers 4
    (load (take old_length two) ∷ new_events ∷ events ∷ save old_length ∷ load (take 191 two) ∷ load (take 193 two) ∷ events ∷ []))
    ≡ (Done, 0) ∷ (Done, 4) ∷ (Done, 12) ∷ (Refused WrongArea, 0) ∷ (Refused WrongArea, 0) ∷ (Refused WrongArea, 0) ∷ (Done, 12) ∷ []
unfolding opened
old_area = refl

-- ---- W-207: 62 events are a reply payload of 252, in a frame of 257 bytes: what it comes to, its first bytes up to the first event,
-- whether the CRC of 255 bytes stands behind them, and what is behind the frame in a buffer of 259

abbrev framed : Seen → Outcome × List ℕ × Bool × List ℕ
framed a = (a.outcome, take 11 a.buffer, eqb (crc_of (take 255 a.buffer)) (le16_at a.buffer 255), drop 257 a.buffer)

-- the charger comes and goes for n ticks, then all are sent, and the new ones
abbrev full : ℕ → List (Outcome × List ℕ × Bool × List ℕ)
full n = map framed (drop n (answers 4 (alternately n (flow (pos 0) 0 true) (flow (pos 0) 0 false) ++ (events ∷ new_events ∷ []))))

-- 62 are kept, the first that was recorded at the head; of 63 the first is gone
pub sixty_two :
    full 62
    ≡ (Done, (0xAA ∷ 0x12 ∷ 252 ∷ 6 ∷ 0 ∷ 0 ∷ 0 ∷ 0 ∷ 0 ∷ 0 ∷ 0x64 ∷ []), true, (0 ∷ 0 ∷ []))
    ∷ (Done, (0xAA ∷ 0x11 ∷ 252 ∷ 6 ∷ 0 ∷ 0 ∷ 0 ∷ 0 ∷ 0 ∷ 0 ∷ 0x64 ∷ []), true, (0 ∷ 0 ∷ []))
    ∷ []
unfolding opened alternately
sixty_two = refl

pub sixty_three :
    full 63
    ≡ (Done, (0xAA ∷ 0x12 ∷ 252 ∷ 6 ∷ 0 ∷ 0 ∷ 0 ∷ 0 ∷ 0 ∷ 0 ∷ 0x65 ∷ []), true, (0 ∷ 0 ∷ []))
    ∷ (Done, (0xAA ∷ 0x11 ∷ 252 ∷ 6 ∷ 0 ∷ 0 ∷ 0 ∷ 0 ∷ 0 ∷ 0 ∷ 0x65 ∷ []), true, (0 ∷ 0 ∷ []))
    ∷ []
unfolding opened alternately
sixty_three = refl

-- 21 before all others
pub no_board :
    map {B = Outcome × List ℕ} (λ a. (a.outcome, a.buffer)) (answers 3 (save area_length ∷ save 0 ∷ load two ∷ load [] ∷ []))
    ≡ replicate 4 (Refused NoBoard, [])
unfolding opened
no_board = refl
