-- W-212: every board that meets demand 2 meets the switch fact, ours with it. The latches of the account are the events ever recorded
-- (proofs/Latched), the switches of a tick are by those latches, and only a tick or a handover, by what a call adds to the history, changes
-- what the account shows of them: so it holds of every call that there is or will be.
-- Assumes nothing.
use mathlib.Core.Path.{◌≡◌, refl, sym, ap, ap₂, ◌∙◌}
use mathlib.Core.Bool.{Bool, true, false, ◌&&◌, ◌||◌, not, cond, or_comm}
use mathlib.Core.List.{List, [], ◌∷◌, ◌++◌, map, reverse, reverse_aux, append_assoc}
use Prim.Native.Nat.{ℕ, ◌+◌, ◌≤◌}
use native.Mathlib.Omega.{arith}
use lib.Dec.{eqb}
use lib.ListN.{length, length-append}
use Rattle.laws.specs.History.{never, some, any, since, each, head_or}
use Rattle.laws.proofs.Latch.{wrong}
use Rattle.refusals.specs.Refusals.{Outcome, Done, is_done}
use Rattle.guard.specs.declared.Condition.{Condition}
use Rattle.guard.specs.Table.{is, charge_off, discharge_off}
use Rattle.guard.specs.Account.{Moment}
use Rattle.readings.specs.declared.Readings.{Readings}
use Rattle.settings.specs.declared.Settings.{Settings}
use Rattle.board.specs.declared.Board.{Board}
use Rattle.board.specs.Calls.{Call, Seen, tick, handover, shape, lets_go, step}
use Rattle.board.specs.Behaviour.{Behaviour, board}
use Rattle.board.specs.Account.{Deed, took, handed, fetched, row, hands, ticking, count_at, moment_of, moments_at, settings_at}
use Rattle.board.specs.Account.{latched_at, charge_at, discharge_at}
use Rattle.board.specs.Account.{board_at, outcome_at, history_by, calling, deeds_of}
use Rattle.board.specs.Account.LastTick.{charge_now, discharge_now}
use Rattle.board.specs.Demands.{deeds, shown, told, told_all, Demand2}
use Rattle.board.proofs.Account.Deeds.{May, after_calls}
use Rattle.board.proofs.Account.Settings.{Fits, ranges, kept, wait_some}
use Rattle.board.proofs.Account.Shown.{charge_on, charge_is_off, discharge_on, discharge_is_off}
use Rattle.board.proofs.Demands.Demand2.{account, as_told, demand2}
use Rattle.board.proofs.Demands.Demand3.{as_ours}
use Rattle.life.specs.Recorded.{unrecovered, recorded_ever}
use Rattle.life.specs.Switches.{switches, last_of, shown_last, turns, turns_at, SwitchFact}
use Rattle.life.proofs.Latched.{Waiting, latched_by_events}

-- ---- no wait is 0 at any tick of a history of calls

still_waiting : (s : Settings) → 1 ≤ s.r332 → (ts : List (List ℕ × Readings)) (ms : List Moment) → Waiting ms
    → Waiting (map (moment_of s) ts ++ ms)
still_waiting s e [] ms w = w
still_waiting s e (t ∷ ts) ms w = (e, still_waiting s e ts ms w)

module _ (cells per_km : ℕ) where
  abbrev Held : List Deed → Type 0
  Held h = Fits (settings_at h) × Waiting (moments_at h)

  held_on : (d : Deed) (h : List Deed) → May cells per_km h d → Held h → Held (d ∷ h)
  held_on d h m (fits, w) =
      (kept cells per_km d h m fits, still_waiting (settings_at h) (wait_some (settings_at h) fits) (row d).ticks (moments_at h) w)

  pub waiting : (cs : List Call) → Waiting (moments_at (deeds cells per_km cs))
  unfolding deeds_of
  waiting cs = (after_calls cells per_km Held held_on (ranges cells per_km [], tt) (reverse cs)).1

-- ---- the switches from the history

abbrev switches_at : List Deed → Bool × Bool
switches_at h = (charge_at h, discharge_at h)

-- by the moments since the handover
abbrev switches_by : List (List Deed) → Bool × Bool
switches_by moments = (head_or false (each charge_now moments), head_or false (each discharge_now moments))

-- a deed that is neither a tick nor a handover changes none
unturned : (d : Deed) (h : List Deed) → turns d ≡ false → switches_at (d ∷ h) ≡ switches_at h
unfolding charge_at discharge_at
unturned d h e =
    let (no-tick, no-hand) = neither (row d).ticks (hands d) e in
    ap (λ (t : Bool). switches_by (cond t [] ((d ∷ h) ∷ since hands h))) no-hand
    ∙ ap (λ (ts : List (List ℕ × Readings)). (
      head_or false (map (λ t. t.1.charger && not (charge_off (latched_at (d ∷ h)))) ts ++ each charge_now (since hands h)),
      head_or false (map (λ t. not (discharge_off (latched_at (d ∷ h))) && (eqb (settings_at h).r334 0 || t.1.ignition)) ts
          ++ each discharge_now (since hands h)),
    )) no-tick
  where
    neither : (ts : List (List ℕ × Readings)) (b : Bool) → (some ts || b) ≡ false → (ts ≡ []) × (b ≡ false)
    neither [] b e = (refl, e)
    neither (t ∷ ts) b e = wrong (sym e)

-- a handover turns both off
off_handed : (h : List Deed) → switches_at (handed ∷ h) ≡ (false, false)
unfolding charge_at discharge_at
off_handed h = refl

unturned_all : (ds h : List Deed) → any turns ds ≡ false → switches_at (ds ++ h) ≡ switches_at h
unturned_all [] h e = refl
unturned_all (d ∷ ds) h e = go (turns d) refl e (unturned_all ds h)
  where
    go : (t : Bool) → turns d ≡ t → cond t true (any turns ds) ≡ false → (any turns ds ≡ false → switches_at (ds ++ h) ≡ switches_at h)
        → switches_at (d ∷ (ds ++ h)) ≡ switches_at h
    go true f e others = wrong (sym e)
    go false f e others = unturned d (ds ++ h) f ∙ others e

-- where both are off they stay so, while no tick is taken
count_next : (d : Deed) (h : List Deed) → count_at (d ∷ h) ≡ length (row d).ticks + count_at h
count_next d h = length-append (row d).ticks (each ticking (since never h))

counted : (ds h : List Deed) → count_at h ≤ count_at (ds ++ h)
counted [] h = omega arith
counted (d ∷ ds) h = omega (arith, counted ds h, count_next d (ds ++ h))

off_untaken : (d : Deed) (h : List Deed) → length (row d).ticks ≡ 0 → switches_at h ≡ (false, false) → switches_at (d ∷ h) ≡ (false, false)
unfolding charge_at discharge_at
off_untaken d h e off = go (row d).ticks refl e (hands d) refl
  where
    go : (ts : List (List ℕ × Readings)) → (row d).ticks ≡ ts → length ts ≡ 0 → (b : Bool) → hands d ≡ b
        → switches_at (d ∷ h) ≡ (false, false)
    go ts f e true g = ap (λ (t : Bool). switches_by (cond t [] ((d ∷ h) ∷ since hands h))) g
    go [] f e false g = unturned d h (ap₂ (λ (ts : List (List ℕ × Readings)) (b : Bool). some ts || b) f g) ∙ off
    go (t ∷ ts) f e false g = absurd (omega arith)

off_on : (ds h : List Deed) → count_at (ds ++ h) ≡ count_at h → switches_at h ≡ (false, false) → switches_at (ds ++ h) ≡ (false, false)
off_on [] h e off = off
off_on (d ∷ ds) h e off =
    let n = count_next d (ds ++ h) in
    let l = counted ds h in
    off_untaken d (ds ++ h) (omega arith) (off_on ds h (omega arith) off)

module _ (cells per_km : ℕ) (h : List Deed) (c : Call) where
  -- where a call is done its deeds are added
  added : outcome_at cells per_km h c ≡ Done → calling cells per_km h c ≡ (shape c).deeds (board_at cells per_km h) ++ h
  unfolding calling
  added e = ap (λ (o : Outcome). history_by h o ((shape c).deeds (board_at cells per_km h)) (lets_go (shape c) o)) e

  unchanged : turns_at cells per_km h c ≡ false → switches_at (calling cells per_km h c) ≡ switches_at h
  unfolding calling
  unchanged = go (is_done (outcome_at cells per_km h c)) (lets_go (shape c) (outcome_at cells per_km h c))
    where
      go : (done lets_go_lem : Bool) → (done && any turns ((shape c).deeds (board_at cells per_km h))) ≡ false
          → switches_at (cond done ((shape c).deeds (board_at cells per_km h) ++ h) (cond lets_go_lem (fetched ∷ h) h)) ≡ switches_at h
      go true lets_go_lem e = unturned_all ((shape c).deeds (board_at cells per_km h)) h e
      go false true e = unturned fetched h refl
      go false false e = refl

  -- in any case some are
  more : (ds : List Deed) × (calling cells per_km h c ≡ ds ++ h)
  unfolding calling
  more = go (is_done (outcome_at cells per_km h c)) (lets_go (shape c) (outcome_at cells per_km h c))
    where
      go : (done lets_go_lem : Bool)
          → (ds : List Deed) × (cond done ((shape c).deeds (board_at cells per_km h) ++ h) (cond lets_go_lem (fetched ∷ h) h) ≡ ds ++ h)
      go true lets_go_lem = ((shape c).deeds (board_at cells per_km h), refl)
      go false true = (fetched ∷ [], refl)
      go false false = ([], refl)

-- ---- what is shown is what the history says

module _ (cells per_km : ℕ) where
  shown_by : (cs : List Call) (c : Call)
      → switches (shown board cells per_km cs c) ≡ switches_at (calling cells per_km (deeds cells per_km cs) c)
  unfolding told board_at deeds_of
  shown_by cs c =
      ap (λ (b : Board). switches (step b c).1) (account cells per_km cs) ∙ ap switches (as_told cells per_km (reverse cs) c)

  last_told : (h cs : List Call)
      → last_of (switches_at (deeds_of cells per_km h)) (map switches (told_all cells per_km h cs))
      ≡ switches_at (deeds_of cells per_km (reverse_aux cs h))
  unfolding told_all told board_at
  last_told h [] = refl
  last_told h (c ∷ cs) = last_told (c ∷ h) cs

  -- calls add to the history
  adds : (h cs : List Call) → (ds : List Deed) × (deeds_of cells per_km (reverse_aux cs h) ≡ ds ++ deeds_of cells per_km h)
  unfolding deeds_of
  adds h [] = ([], refl)
  adds h (c ∷ cs) =
      let (ds, e) = adds (c ∷ h) cs in
      let (one, f) = more cells per_km (deeds_of cells per_km h) c in
      (ds ++ one, e ∙ ap (λ (l : List Deed). ds ++ l) f ∙ sym (append_assoc ds one (deeds_of cells per_km h)))

  in_turn : (xs ys h : List Call) → reverse_aux (xs ++ ys) h ≡ reverse_aux ys (reverse_aux xs h)
  in_turn [] ys h = refl
  in_turn (x ∷ xs) ys h = in_turn xs ys (x ∷ h)

  module _ (cs since : List Call) (number n : ℕ)
      (done : outcome_at cells per_km (deeds cells per_km cs) (handover number n) ≡ Done)
      (untaken : count_at (deeds cells per_km (cs ++ (handover number n ∷ since))) ≡ count_at (deeds cells per_km cs)) where
    abbrev with_it : List Call
    with_it = handover number n ∷ reverse cs

    handed_first : deeds_of cells per_km with_it ≡ handed ∷ deeds cells per_km cs
    unfolding deeds_of shape
    handed_first = added cells per_km (deeds cells per_km cs) (handover number n) done

    off_since : switches_at (deeds cells per_km (cs ++ (handover number n ∷ since))) ≡ (false, false)
    off_since =
        let (ds, e) = adds with_it since in
        let all = ap (deeds_of cells per_km) (in_turn cs (handover number n ∷ since) []) ∙ e ∙ ap (λ (l : List Deed). ds ++ l) handed_first in
        ap switches_at all
        ∙ off_on ds (handed ∷ deeds cells per_km cs) (ap count_at (sym all) ∙ untaken) (off_handed (deeds cells per_km cs))

module _ (B : Behaviour) (meets : Demand2 B) (cells per_km : ℕ) (cs : List Call) where
  abbrev h : List Deed
  h = deeds cells per_km cs

  shown_so : (c : Call) → switches (shown B cells per_km cs c) ≡ switches_at (calling cells per_km h c)
  shown_so c = ap switches (as_ours B meets cells per_km cs c) ∙ shown_by cells per_km cs c

  last_so : shown_last B cells per_km cs ≡ switches_at h
  unfolding deeds_of charge_at discharge_at
  last_so = ap (λ (answers : List Seen). last_of (false, false) (map switches answers)) (meets cells per_km cs) ∙ last_told cells per_km [] cs

  -- ---- at a tick
  module _ (given : List ℕ) (r : Readings) (accepted : outcome_at cells per_km h (tick given r) ≡ Done) where
    ticked : switches (shown B cells per_km cs (tick given r)) ≡ switches_at (took given r ∷ h)
    unfolding shape
    ticked = shown_so (tick given r) ∙ ap switches_at (added cells per_km h (tick given r) accepted)

    by_events : (c : Condition)
        → unrecovered c (recorded_ever (moments_at (took given r ∷ h))) ≡ is (latched_at (took given r ∷ h)) c
    unfolding latched_at
    by_events =
        latched_by_events (moments_at (took given r ∷ h))
        (wait_some (settings_at h) (ranges cells per_km (reverse cs)), waiting cells per_km cs)

pub switch_fact : (B : Behaviour) → Demand2 B → SwitchFact B
unfolding shape settings_at
switch_fact B meets =
    record {
      charge_is_off = λ cells per_km cs given r ok off.
          ap (λ p. p.0) (ticked B meets cells per_km cs given r ok)
          ∙ charge_is_off (took given r ∷ deeds cells per_km cs) off.0
          (sym (by_events B meets cells per_km cs given r ok off.0) ∙ off.2) off.1;
      discharge_is_off = λ cells per_km cs given r ok off.
          ap (λ p. p.1) (ticked B meets cells per_km cs given r ok)
          ∙ discharge_is_off (took given r ∷ deeds cells per_km cs) off.0
          (sym (by_events B meets cells per_km cs given r ok off.0) ∙ off.2) off.1;
      charge_on = λ cells per_km cs given r ok none.
          ap (λ p. p.0) (ticked B meets cells per_km cs given r ok)
          ∙ charge_on given r (deeds cells per_km cs)
          (λ c named. sym (by_events B meets cells per_km cs given r ok c) ∙ none c named);
      discharge_on = λ cells per_km cs given r ok none.
          ap (λ p. p.1) (ticked B meets cells per_km cs given r ok)
          ∙ discharge_on given r (deeds cells per_km cs)
          (λ c named. sym (by_events B meets cells per_km cs given r ok c) ∙ none c named)
          ∙ or_comm (eqb (settings_at (deeds cells per_km cs)).r334 0) r.ignition;
      handed = λ cells per_km cs number n ok.
          shown_so B meets cells per_km cs (handover number n)
          ∙ ap switches_at (added cells per_km (deeds cells per_km cs) (handover number n) ok) ∙ off_handed (deeds cells per_km cs);
      until_a_tick = λ cells per_km cs since number n ok untaken.
          last_so B meets cells per_km (cs ++ (handover number n ∷ since)) ∙ off_since cells per_km cs since number n ok untaken;
      nothing_else = λ cells per_km cs c e.
          shown_so B meets cells per_km cs c ∙ unchanged cells per_km (deeds cells per_km cs) c e ∙ sym (last_so B meets cells per_km cs);
    }

pub ours : SwitchFact board
ours = switch_fact board demand2
