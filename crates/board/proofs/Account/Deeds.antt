-- A history of calls, deed by deed: what holds at the start and is kept by every deed that a call may do, holds after all calls. Which
-- calls there are does not matter here: each says, by its shape, which deeds it does, and `allowed` that those may be done. Assumes
-- nothing.
use Rattle.std.specs.Prelude.{Err, Ok}
use mathlib.Core.Path.{◌≡◌, refl, ◌∙◌}
use mathlib.Core.Bool.{Bool, true, false, cond}
use mathlib.Core.List.{List, [], ◌∷◌, ◌++◌}
use Prim.Native.Nat.{ℕ}
use lib.ListN.{length}
use Rattle.laws.specs.History.{any}
use Rattle.refusals.specs.declared.Refusal.TheVariants.{NoRoom, WrongCells, WrongCurrent, NoInternal, WrongPulses, WrongArea}
use Rattle.refusals.specs.declared.Refusal.TheVariants.{UsedAfterUnused, NeverRecorded, NoFrameHeld}
use Rattle.refusals.specs.Refusals.{Done, is_done, first}
use Rattle.refusals.proofs.Rows.{done_is, off}
use Rattle.classes.proofs.Laws as classes
use Rattle.events.specs.declared.Event.{Event}
use Rattle.events.specs.Area.{records_in, used_of, never_recorded, load_rows}
use Rattle.readings.specs.declared.Readings.{Readings}
use Rattle.readings.specs.Readings.{wrong_cells, wrong_current, no_internal, wrong_pulses}
use Rattle.requests.specs.declared.Request.TheVariants as request
use Rattle.requests.specs.Requests.{request_of, marks, Asked}
use Rattle.answers.specs.Answers.{write_outcome, asked_outcome}
use Rattle.pack.specs.Pack.{usable_count}
use Rattle.board.specs.declared.Board.{Board}
use Rattle.board.specs.Changes.{asked_deeds}
use Rattle.board.specs.Line.{held_in}
use Rattle.board.specs.Calls.{Call, tick, frame, handover, offer, fetch, save, load, cabinet, keep, recall}
use Rattle.board.specs.Calls.{frame_rows, shape, lets_go}
use Rattle.board.specs.Account.{Deed, took, wrote, cleared, forgot, sent, handed, heard, fetched, loaded, settings_at, board_at}
use Rattle.board.specs.Account.{outcome_at, calling, deeds_of}
use Rattle.board.proofs.Shape.{is_done_lem}
use Rattle.board.proofs.Asked.{by_table}

module _ (cells per_km : ℕ) where
  -- of a tick that is taken
  pub record Good (given : List ℕ) (r : Readings) : Type 0 where
    pub count : usable_count cells ≡ true
    pub cells_right : wrong_cells cells (length given) ≡ false
    pub current_right : wrong_current r.current ≡ false
    pub internal_right : no_internal r.internal ≡ false
    pub pulses_right : wrong_pulses per_km r.pulses ≡ false

  -- which deeds may follow a history: good ticks, writes that are accepted; any other
  abbrev pub May : List Deed → Deed → Type 0
  May h (took given r) = Good given r
  May h (wrote ps) = write_outcome (settings_at h) ps ≡ Done
  May h cleared = Unit {0}
  May h forgot = Unit {0}
  May h sent = Unit {0}
  May h handed = Unit {0}
  May h (heard bytes) = Unit {0}
  May h fetched = Unit {0}
  May h (loaded es) = (rs : List Event) × (es ≡ used_of rs) × (any never_recorded rs ≡ false)

  abbrev pub AllMay : List Deed → List Deed → Type 0
  AllMay h [] = Unit {0}
  AllMay h (d ∷ ds) = May (ds ++ h) d × AllMay h ds

  -- ---- each call does what may be done

  module _ (h : List Deed) where
    abbrev b : Board
    b = board_at cells per_km h

    asked_may : (s : List ℕ) (q : Asked) → asked_outcome b.pack s q ≡ Done → AllMay h (asked_deeds s q)
    unfolding asked_deeds asked_outcome board_at
    asked_may s (Err refusal) e = tt
    asked_may s (Ok request.ClearEvents) e = (tt, tt)
    asked_may s (Ok request.ClearStatistics) e = (tt, tt)
    asked_may s (Ok (request.Write f n)) e = (e, tt)
    asked_may s (Ok (request.Read q)) e = go (marks q)
      where
        go : (t : Bool) → AllMay h (cond t (sent ∷ []) [])
        go true = (tt, tt)
        go false = tt

    rows_may : (s : List ℕ) → first (frame_rows b s) ≡ Done → AllMay h (asked_deeds s (request_of s))
    rows_may s e = asked_may s (request_of s) (by_table b s ∙ e)

    done_may : (c : Call) → usable_count cells ≡ true → first ((shape c).rows b) ≡ Done → AllMay h ((shape c).deeds b)
    unfolding shape board_at load_rows
    done_may (tick given r) u e =
        let (a, e₁) = off WrongCells _ _ e in
        let (k, e₂) = off WrongCurrent _ _ e₁ in
        let (i, e₃) = off NoInternal _ _ e₂ in
        (record { count = u; cells_right = a; current_right = k; internal_right = i; pulses_right = (off WrongPulses _ _ e₃).0 }, tt)
    done_may (frame s room) u e = rows_may s (off NoRoom _ _ e).1
    done_may (handover number n) u e = (tt, tt)
    done_may (offer bytes) u e = (tt, tt)
    done_may (fetch room) u e = (tt, rows_may (held_in b) (off NoFrameHeld _ _ (off NoRoom _ _ e).1).1)
    done_may (save n) u e = tt
    done_may (cabinet n) u e = tt
    done_may (keep store) u e = tt
    done_may (recall store edition) u e = (classes.taken b.pack.settings store edition e, tt)
    done_may (load area) u e =
        let e₁ = (off WrongArea _ _ e).1 in
        let e₂ = (off UsedAfterUnused _ _ e₁).1 in
        ((records_in area, refl, (off NeverRecorded _ _ e₂).0), tt)

    pub allowed : (c : Call) → outcome_at cells per_km h c ≡ Done → AllMay h ((shape c).deeds b)
    unfolding board_at
    allowed c e = let (u, z) = is_done_lem b (shape c) e in done_may c u z

  -- ---- so what every such deed keeps holds after all calls, where calls bring what they are said to bring, and their deeds have it

  abbrev pub Each : (Deed → Type 0) → List Deed → Type 0
  Each T [] = Unit {0}
  Each T (d ∷ ds) = T d × Each T ds

  abbrev pub Bring : (Call → Type 0) → List Call → Type 0
  Bring Q [] = Unit {0}
  Bring Q (c ∷ cs) = Q c × Bring Q cs

  module _ (Q : Call → Type 0) (T : Deed → Type 0) (P : List Deed → Type 0) (brings : (h : List Deed) (c : Call) → Q c → P h
      → Each T ((shape c).deeds (board_at cells per_km h))) (none : T fetched)
      (keeps : (d : Deed) (k : List Deed) → May k d → T d → P k → P (d ∷ k)) where
    all_kept : (h ds : List Deed) → AllMay h ds → Each T ds → P h → P (ds ++ h)
    all_kept h [] m e p = p
    all_kept h (d ∷ ds) m e p = keeps d (ds ++ h) m.0 e.0 (all_kept h ds m.1 e.1 p)

    after_call : (h : List Deed) (c : Call) → Q c → P h → P (calling cells per_km h c)
    unfolding calling
    after_call h c q p = go (is_done (outcome_at cells per_km h c)) refl (lets_go (shape c) (outcome_at cells per_km h c))
      where
        go : (t : Bool) → is_done (outcome_at cells per_km h c) ≡ t → (u : Bool)
            → P (cond t ((shape c).deeds (board_at cells per_km h) ++ h) (cond u (fetched ∷ h) h))
        go true e u =
            all_kept h ((shape c).deeds (board_at cells per_km h)) (allowed h c (done_is (outcome_at cells per_km h c) e)) (brings h c q p) p
        go false e true = keeps fetched h tt none p
        go false e false = p

    pub after_typed : P [] → (cs : List Call) → Bring Q cs → P (deeds_of cells per_km cs)
    unfolding deeds_of
    after_typed p [] q = p
    after_typed p (c ∷ cs) q = after_call (deeds_of cells per_km cs) c q.0 (after_typed p cs q.1)

  pub after_calls : (P : List Deed → Type 0) → ((d : Deed) (k : List Deed) → May k d → P k → P (d ∷ k)) → P [] → (cs : List Call)
      → P (deeds_of cells per_km cs)
  after_calls P keeps p cs = after_typed (λ c. Unit {0}) (λ d. Unit {0}) P (λ h c q p. each ((shape c).deeds (board_at cells per_km h))) tt
      (λ d k m e. keeps d k m) p cs (bring cs)
    where
      each : (ds : List Deed) → Each (λ d. Unit {0}) ds
      each [] = tt
      each (d ∷ ds) = (tt, each ds)

      bring : (cs : List Call) → Bring (λ c. Unit {0}) cs
      bring [] = tt
      bring (c ∷ cs) = (tt, bring cs)
