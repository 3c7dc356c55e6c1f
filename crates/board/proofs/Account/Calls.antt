-- A call leads from the board that a history makes to the board that the history with its deed makes. Assumes nothing.
use Rattle.std.specs.Prelude.{Err, Ok}
use mathlib.Core.Path.{◌≡◌, refl, sym, ap, ap₂, ◌∙◌}
use mathlib.Core.Bool.{Bool, true, false, ◌&&◌, ◌||◌, not, cond}
use mathlib.Core.List.{List, [], ◌∷◌, ◌++◌, reverse, reverse-append, reverse-reverse}
use Prim.Native.Nat.{ℕ, ◌-◌, ◌≤◌, min}
use native.Mathlib.Omega.{arith}
use lib.Dec.{eqb}
use lib.ListN.{length, take, replicate, length-reverse}
use Rattle.laws.specs.Fold.{shifted}
use Rattle.laws.specs.History.{since, each, latest}
use Rattle.laws.proofs.Lists.{latest_few}
use Rattle.refusals.specs.declared.Refusal.TheVariants.{NoRoom, NoFrameHeld}
use Rattle.refusals.specs.Refusals.{Done, is_done, first}
use Rattle.refusals.proofs.Rows.{refused_not, done_is, off}
use Rattle.cells.specs.Cells.{extremes_of, decision_of}
use Rattle.classes.specs.Store.{pairs_for}
use Rattle.classes.proofs.Laws as classes
use Rattle.events.specs.declared.Event.{Event}
use Rattle.events.specs.Events.{capacity, no_event, no_events, sent_of}
use Rattle.events.specs.Area.{list_of, events_in}
use Rattle.events.proofs.Saved.{few_events}
use Rattle.guard.specs.declared.Guard.{Guard}
use Rattle.guard.specs.Guard.{guard_of}
use Rattle.guard.specs.Table.{charge_off, discharge_off}
use Rattle.readings.specs.declared.Readings.{Readings}
use Rattle.receiver.specs.Receiver.{taken}
use Rattle.receiver.specs.Heard.{after_hearing}
use Rattle.receiver.proofs.Heard.{hearing, heard_all, heard_taken}
use Rattle.settings.specs.Settings as settings
use Rattle.settings.proofs.Drafts.{done_stands}
use Rattle.statistics.specs.Statistics.{ridden_of, counted_of, cleared_at}
use Rattle.writes.specs.declared.Pair.{Pair}
use Rattle.writes.specs.Writes.{pairs_of, drafted_of, written_to}
use Rattle.requests.specs.declared.Request.TheVariants as request
use Rattle.requests.specs.Requests.{request_of, marks, Asked}
use Rattle.pack.specs.declared.Clock.{Clock}
use Rattle.pack.specs.Pack.{later_of}
use Rattle.hire.specs.Hire.{new_hire}
use Rattle.hire.specs.Tick.{events_of, recorded_all, status_for}
use Rattle.answers.specs.Answers.{asked_outcome}
use Rattle.board.specs.declared.Board.{Board}
use Rattle.board.specs.State.{with_settings, with_events, with_statistics, with_receiver}
use Rattle.board.specs.Line.{held_in, let_go}
use Rattle.board.specs.Tick.{ticked_of}
use Rattle.board.specs.Handover.{handed_over}
use Rattle.board.specs.Changes as changes
use Rattle.board.specs.Changes.{changed_by, asked_deeds}
use Rattle.board.specs.Calls.{Call, tick, frame, handover, offer, fetch, save, load, cabinet, keep, recall}
use Rattle.board.specs.Calls.{frame_rows, shape, lets_go, board_by, board_after}
use Rattle.board.specs.Calls.{step}
use Rattle.board.specs.Account.{Deed, took, wrote, cleared, forgot, sent, handed, heard, fetched, loaded, drops, sensed_of, settings_at}
use Rattle.board.specs.Account.{seconds_at, clock_at}
use Rattle.board.specs.Account.{latched_at, waits_at, remembered_at, sensed_at, window_at, charger_at, status_at, decision_at, balancing_at}
use Rattle.board.specs.Account.{charge_at, discharge_at}
use Rattle.board.specs.Account.{events_at, statistics_at, heard_at, board_at, outcome_at, calling, deeds_of}
use Rattle.board.specs.Account as account
use Rattle.board.proofs.Opened.{steps}
use Rattle.board.proofs.Asked.{by_table}
use Rattle.board.proofs.Shape.{is_done_lem}
use Rattle.board.proofs.Account.Settings.{written, ranges, wait_some}
use Rattle.board.proofs.Account.Tick.{guard_at, clock_next, guard_next, window_next, events_next, statistics_next}

module _ (cells per_km : ℕ) where
  -- ---- a tick
  module _ (given : List ℕ) (r : Readings) (h : List Deed) where
    -- the board after it, where the clock and the guard are those
    abbrev ticked_with : Guard → Clock → Board
    ticked_with g c =
        record {
          pack = record { settings = settings_at h; guard = g; clock = c; cells = cells; per_km = per_km };
          hire =
              record {
                sensed = sensed_of (given, r);
                window = shifted (window_at h) r.pulses;
                events = recorded_all c.seconds (events_at h) (events_of (charger_at h) r.charger (latched_at h) g.latched);
                statistics = counted_of (ridden_of (statistics_at h) r.pulses) r (extremes_of given) (latched_at h) g.latched
                    (eqb (status_for g.latched r) 0x91 && not (eqb (status_at h) 0x91));
                status = status_for g.latched r;
                decision = decision_of (settings_at h).r303 (settings_at h).r308 given;
                balancing = cond (eqb (status_for g.latched r) 0x91 || eqb (status_for g.latched r) 0x96 || g.latched.ov)
                    (decision_of (settings_at h).r303 (settings_at h).r308 given) 0;
                charge = r.charger && not (charge_off g.latched);
                discharge = not (discharge_off g.latched) && (eqb (settings_at h).r334 0 || r.ignition);
                receiver = after_hearing (heard_at h);
              };
        }

    told : board_at cells per_km (took given r ∷ h) ≡ ticked_with (guard_at (took given r ∷ h)) (clock_at (took given r ∷ h))
    unfolding board_at settings_at clock_at sensed_at status_at decision_at balancing_at charge_at discharge_at heard_at
    told =
        λ i. record {
          pack = record {
            settings = settings_at h;
            guard = guard_at (took given r ∷ h);
            clock = clock_at (took given r ∷ h);
            cells = cells;
            per_km = per_km;
          };
          hire =
              record {
                sensed = sensed_of (given, r);
                window = window_next given r h i;
                events = events_next given r h i;
                statistics = statistics_next given r h i;
                status = status_at (took given r ∷ h);
                decision = decision_at (took given r ∷ h);
                balancing = balancing_at (took given r ∷ h);
                charge = charge_at (took given r ∷ h);
                discharge = discharge_at (took given r ∷ h);
                receiver = after_hearing (heard_at h);
              };
        }

    done : ticked_with (guard_of (guard_at h) (settings_at h) r (extremes_of given)) (later_of (clock_at h))
        ≡ ticked_of (board_at cells per_km h) given r
    unfolding board_at steps
    done = refl

    pub ticked : 1 ≤ (settings_at h).r332 → ticked_of (board_at cells per_km h) given r ≡ board_at cells per_km (took given r ∷ h)
    ticked some = sym (told ∙ ap₂ ticked_with (guard_next given r h some) (clock_next given r h) ∙ done)

  -- ---- any deed
  module _ (h : List Deed) where
    abbrev b : Board
    b = board_at cells per_km h

    wrote_goes : (ps : List Pair)
        → with_settings b (settings.settings_in (drafted_of (settings.draft_of b.pack.settings) ps)) ≡ board_at cells per_km (wrote ps ∷ h)
    unfolding board_at settings_at clock_at seconds_at latched_at waits_at remembered_at sensed_at window_at status_at decision_at balancing_at charge_at
        discharge_at events_at statistics_at heard_at
    wrote_goes ps = ap (with_settings b) (sym (written ps h))

    cleared_goes : with_statistics b (cleared_at b.pack.clock.seconds) ≡ board_at cells per_km (cleared ∷ h)
    unfolding board_at settings_at clock_at seconds_at latched_at waits_at remembered_at sensed_at window_at status_at decision_at balancing_at charge_at
        discharge_at events_at statistics_at heard_at cleared_at
    cleared_goes = refl

    forgot_goes : with_events b no_events ≡ board_at cells per_km (forgot ∷ h)
    unfolding board_at settings_at clock_at seconds_at latched_at waits_at remembered_at sensed_at window_at status_at decision_at balancing_at charge_at
        discharge_at events_at statistics_at heard_at no_events
    forgot_goes = refl

    sent_goes : with_events b (sent_of b.hire.events) ≡ board_at cells per_km (sent ∷ h)
    unfolding board_at settings_at clock_at seconds_at latched_at waits_at remembered_at sensed_at window_at status_at decision_at balancing_at charge_at
        discharge_at events_at statistics_at heard_at sent_of
    sent_goes = refl

    handed_goes : handed_over b ≡ board_at cells per_km (handed ∷ h)
    unfolding board_at settings_at clock_at seconds_at latched_at waits_at remembered_at sensed_at window_at status_at decision_at balancing_at charge_at
        discharge_at events_at statistics_at heard_at handed_over new_hire no_events cleared_at
    handed_goes = refl

    pub heard_more : (bytes : List ℕ) → heard_at (heard bytes ∷ h) ≡ heard_at h ++ bytes
    unfolding heard_at
    heard_more bytes =
        reverse-append (reverse bytes) (each account.hearing (since drops h)) ∙ ap (λ (l : List ℕ). heard_at h ++ l) (reverse-reverse bytes)

    -- an area has no more events than there are places
    loaded_goes : (es : List Event) → length es ≤ capacity → with_events b (list_of es) ≡ board_at cells per_km (loaded es ∷ h)
    unfolding board_at settings_at clock_at seconds_at latched_at waits_at remembered_at sensed_at window_at status_at decision_at balancing_at charge_at
        discharge_at events_at statistics_at heard_at
    loaded_goes es few =
        let n = length-reverse es in
        let places : (list_of es).list ≡ latest capacity no_event (reverse es) =
        sym (latest_few capacity no_event (reverse es) (omega arith) ∙ ap₂ (λ (k : ℕ) (l : List Event). replicate (capacity - k) no_event
        ++ l) n (reverse-reverse es)) in
        let kept : length es ≡ min capacity (length (reverse es)) = omega arith in
        λ i. with_events b (record { list = places i; kept = kept i; unsent = 0 })

    heard_goes : (bytes : List ℕ) → with_receiver b (hearing b.hire.receiver bytes) ≡ board_at cells per_km (heard bytes ∷ h)
    unfolding board_at settings_at clock_at seconds_at latched_at waits_at remembered_at sensed_at window_at status_at decision_at balancing_at charge_at
        discharge_at events_at statistics_at
    heard_goes bytes = ap (with_receiver b) (heard_all bytes (heard_at h) ∙ ap after_hearing (sym (heard_more bytes)))

    fetched_goes : let_go b ≡ board_at cells per_km (fetched ∷ h)
    unfolding board_at settings_at clock_at seconds_at latched_at waits_at remembered_at sensed_at window_at status_at decision_at balancing_at charge_at
        discharge_at events_at statistics_at heard_at
    fetched_goes = refl

  -- ---- any call: where it is done its deeds make the board that it leaves
  module _ (h : List Deed) (some : 1 ≤ (settings_at h).r332) where
    abbrev before : Board
    before = board_at cells per_km h

    -- a write that is accepted
    written_goes : (ps : List Pair) → settings.outcome_of (drafted_of (settings.draft_of (settings_at h)) ps) ≡ Done
        → changes.written before ps ≡ board_at cells per_km (wrote ps ∷ h)
    unfolding board_at
    written_goes ps e = ap (with_settings before) (done_stands (settings_at h) (drafted_of (settings.draft_of (settings_at h)) ps) e) ∙ wrote_goes h ps

    -- a request that is accepted
    asked_goes : (s : List ℕ) (q : Asked) → asked_outcome before.pack s q ≡ Done
        → changed_by before s q ≡ board_at cells per_km (asked_deeds s q ++ h)
    unfolding changed_by asked_deeds asked_outcome board_at
    asked_goes s (Err refusal) e = absurd (refused_not refusal e)
    asked_goes s (Ok request.ClearEvents) e = forgot_goes h
    asked_goes s (Ok request.ClearStatistics) e = cleared_goes h
    asked_goes s (Ok (request.Write f n)) e = written_goes (pairs_of f s n) e
    asked_goes s (Ok (request.Read q)) e = go (marks q)
      where
        go : (t : Bool)
            → with_events before (cond t (sent_of before.hire.events) before.hire.events)
            ≡ board_at cells per_km (cond t (sent ∷ []) [] ++ h)
        go true = sent_goes h
        go false = refl

    rows_go : (s : List ℕ) → first (frame_rows before s) ≡ Done
        → changed_by before s (request_of s) ≡ board_at cells per_km (asked_deeds s (request_of s) ++ h)
    rows_go s e = asked_goes s (request_of s) (by_table before s ∙ e)

    goes : (c : Call) → first ((shape c).rows before) ≡ Done → (shape c).done before ≡ board_at cells per_km ((shape c).deeds before ++ h)
    unfolding shape board_at
    goes (tick given r) e = ticked given r h some
    goes (frame s room) e = rows_go s (off NoRoom _ _ e).1
    goes (handover number n) e = handed_goes h
    goes (offer bytes) e =
        ap (with_receiver before) (heard_taken bytes before.hire.receiver)
        ∙ heard_goes h (take (taken before.hire.receiver bytes) bytes)
    goes (fetch room) e =
        ap let_go (rows_go (held_in before) (off NoFrameHeld _ _ (off NoRoom _ _ e).1).1)
        ∙ fetched_goes (asked_deeds (held_in before) (request_of (held_in before)) ++ h)
    goes (save n) e = refl
    goes (load area) e = loaded_goes h (events_in area) (few_events area)
    goes (cabinet n) e = refl
    goes (keep store) e = refl
    goes (recall store edition) e = written_goes (pairs_for store edition) (classes.taken (settings_at h) store edition e)

    called : (c : Call) → board_after before c ≡ board_at cells per_km (calling cells per_km h c)
    unfolding board_by calling
    called c = go (is_done (outcome_at cells per_km h c)) refl (lets_go (shape c) (outcome_at cells per_km h c))
      where
        go : (t : Bool) → is_done (outcome_at cells per_km h c) ≡ t → (u : Bool)
            → cond t ((shape c).done before) (cond u (let_go before) before)
            ≡ board_at cells per_km (cond t ((shape c).deeds before ++ h) (cond u (fetched ∷ h) h))
        go true e u = goes c (is_done_lem before (shape c) (done_is (outcome_at cells per_km h c) e)).1
        go false e true = fetched_goes h
        go false e false = refl

  pub stepped : (h : List Call) (c : Call)
      → (step (board_at cells per_km (deeds_of cells per_km h)) c).0 ≡ board_at cells per_km (deeds_of cells per_km (c ∷ h))
  unfolding deeds_of
  stepped h c =
      let ds = deeds_of cells per_km h in
      called ds (wait_some (settings_at ds) (ranges cells per_km h)) c
