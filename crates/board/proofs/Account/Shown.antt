-- Demand 2, with it: an accepted write reads back until the next; a refused one changes nothing. While a condition is latched, each
-- switch it names is off. So the account says, and of the events that are kept and new and of the distance; and so it holds of the
-- board after any calls.
-- Assumes nothing.
use mathlib.Core.Path.{◌≡◌, refl, ap, ◌∙◌, subst⁻¹}
use mathlib.Core.Bool.{Bool, true, false, ◌&&◌, ◌||◌, not, cond, and-false, and-true}
use mathlib.Core.List.{List, [], ◌∷◌, ◌++◌, map, reverse, append_assoc}
use Prim.Native.Nat.{ℕ, ◌+◌, ◌*◌, ◌/◌, ◌≤◌, ◌<◌, min}
use native.Mathlib.Omega.{arith}
use borrow.Author.Tests.{eqb-false}
use lib.Dec.{eqb}
use lib.ListN.{length, take, length-append}
use lib.Seq.{take-append-le}
use mir.Syntax.{w16}
use mir.ValLaws.{of_z-to_z}
use Rattle.laws.specs.History.{never, since, from, each, head_or, newest}
use Rattle.laws.proofs.Lists.{latest_taken, take_min, sooner}
use Rattle.events.specs.declared.Event.{Event}
use Rattle.events.specs.Events.{capacity, no_event, latest, kept_of, new_of}
use Rattle.guard.specs.declared.Condition.{Condition}
use Rattle.guard.specs.Table.{is, names_charge, names_discharge, charge_off, discharge_off}
use Rattle.guard.proofs.Switches.{charge_named, discharge_named, charge_unnamed, discharge_unnamed}
use Rattle.readings.specs.declared.Readings.{Readings}
use Rattle.writes.specs.declared.Pair.{Pair}
use Rattle.writes.specs.Writes.{names, last_of}
use Rattle.settings.specs.Settings as settings
use Rattle.signed.specs.Signed.{bits_of, from_bits}
use Rattle.statistics.specs.Statistics.{distance_of}
use Rattle.statistics.proofs.Distance.{stopped}
use Rattle.board.specs.declared.Board.{Board}
use Rattle.board.specs.Start.{start_board}
use Rattle.board.specs.Calls.{Call}
use Rattle.board.specs.Behaviour.{after_in, board}
use Rattle.board.specs.Demands.{deeds}
use Rattle.board.specs.Account.{Deed, took, wrote, cleared, forgot, sent, handed, heard, fetched, loaded, row, forgets, writing}
use Rattle.board.specs.Account.{settings_at, latched_at, charge_at, discharge_at, recorded_now, loading, kept_since, new_since, events_at}
use Rattle.board.specs.Account.{pulses_at, statistics_at, distance_at, board_at}
use Rattle.board.proofs.Account.Settings.{Fits, ranges}
use Rattle.board.proofs.Demands.Demand2.{account}

-- ---- events: the latest 62 of those loaded and recorded since they were forgotten; of these, the ones recorded since the last 0x11 or
-- load; oldest
-- first

pub kept_shown : (h : List Deed) → kept_of (events_at h) ≡ reverse (take capacity (kept_since h))
unfolding events_at latest
kept_shown h =
    let k : min capacity (min capacity (length (kept_since h))) ≡ min capacity (length (kept_since h)) = omega arith in
    ap (λ n. latest n (events_at h)) k
    ∙ latest_taken capacity (min capacity (length (kept_since h))) no_event (kept_since h) (omega arith) (omega arith)
    ∙ ap reverse (take_min capacity (kept_since h))

-- the new ones are the newest of those
pub newest_kept : (h : List Deed) → (older : List Event) × (kept_since h ≡ new_since h ++ older)
newest_kept h =
    let older = sooner forgets (λ d. (row d).sends) recorded_now h in
    let before = reverse (loading (from forgets h)) in
    (older.0 ++ before, ap (λ (es : List Event). es ++ before) older.1 ∙ append_assoc (new_since h) older.0 before)

pub new_shown : (h : List Deed) → new_of (events_at h) ≡ reverse (take capacity (new_since h))
unfolding events_at latest
new_shown h =
    let older = newest_kept h in
    let us = new_since h in
    let some = min capacity (length us) in
    let all : length (kept_since h) ≡ length us + length older.0 = ap length older.1 ∙ length-append us older.0 in
    let n : min (min capacity (min capacity (length (kept_since h)))) some ≡ some = omega arith in
    ap (λ n. latest n (events_at h)) n
    ∙ latest_taken capacity some no_event (kept_since h) (omega arith) (omega arith)
    ∙ ap (λ (es : List Event). reverse (take some es)) older.1
    ∙ ap reverse (take-append-le some us older.0 (omega arith) ∙ take_min capacity us)

-- ---- distance: exact since the clear, rounded once

pub distance_shown : (per_km : ℕ) (h : List Deed) → per_km ≤ 65535 → distance_of (statistics_at h).pulses per_km ≡ distance_at per_km h
unfolding distance_at statistics_at distance_of
distance_shown per_km h held = go (eqb per_km 0) refl
  where
    go : (t : Bool) → eqb per_km 0 ≡ t
        → cond t 0 (min 4294967295 (100 * min 281474976710656 (pulses_at h) / per_km)) ≡ cond t 0 (min 4294967295 (100 * pulses_at h / per_km))
    go true e = refl
    go false e = stopped (pulses_at h) per_km (omega (arith, eqb-false)) held

-- ---- settings: a register reads what the last accepted write that names it gave it, the later of two values in one write, else its
-- factory value

abbrev pub Reads : ℕ → (ℕ → ℕ) → List Deed → Type 0
Reads register shown h =
    settings.register_of (settings_at h) register
    ≡ last_of (settings.register_of settings.factory register) register shown (each writing (since never h))

-- 320 is signed; of sixteen bits, it reads them
pub same_bits : (v : ℕ) → v < 65536 → bits_of (from_bits v) ≡ v
unfolding bits_of from_bits
same_bits v h = of_z-to_z w16 v (record { fits = h })

pub reads_back : (h : List Deed)
    → Reads 301 (λ v. v) h × Reads 303 (λ v. v) h × Reads 308 (λ v. v) h × Reads 315 (λ v. v) h × Reads 316 (λ v. v) h
    × Reads 317 (λ v. v) h × Reads 318 (λ v. v) h × Reads 319 (λ v. v) h × Reads 320 (λ v. bits_of (from_bits v)) h × Reads 332 (λ v. v) h
    × Reads 334 (λ v. v) h × Reads 335 (λ v. v) h
unfolding settings.register_of settings_at
reads_back h =
    (refl, refl, refl, refl, refl, refl, refl, refl, inside (newest (names 320) (each writing (since never h))), refl, refl, refl)
  where
    inside : (ps : List Pair)
        → bits_of (head_or (settings.factory).r320 (map (λ p. from_bits p.value) ps))
        ≡ head_or (bits_of (settings.factory).r320) (map (λ p. bits_of (from_bits p.value)) ps)
    inside [] = refl
    inside (p ∷ ps) = refl

-- ---- switches: as the table says at every tick

pub charge_at_a_tick : (cells : List ℕ) (r : Readings) (h : List Deed)
    → charge_at (took cells r ∷ h) ≡ (r.charger && not (charge_off (latched_at (took cells r ∷ h))))
unfolding charge_at
charge_at_a_tick cells r h = refl

pub discharge_at_a_tick : (cells : List ℕ) (r : Readings) (h : List Deed)
    → discharge_at (took cells r ∷ h) ≡ (not (discharge_off (latched_at (took cells r ∷ h))) && (eqb (settings_at h).r334 0 || r.ignition))
unfolding discharge_at
discharge_at_a_tick cells r h = refl

-- with nothing latched that names it
pub charge_on : (cells : List ℕ) (r : Readings) (h : List Deed)
    → ((c : Condition) → names_charge c ≡ true → is (latched_at (took cells r ∷ h)) c ≡ false) → charge_at (took cells r ∷ h) ≡ r.charger
charge_on cells r h off =
    charge_at_a_tick cells r h ∙ ap (λ t. r.charger && not t) (charge_unnamed (latched_at (took cells r ∷ h)) off) ∙ and-true r.charger

pub discharge_on : (cells : List ℕ) (r : Readings) (h : List Deed)
    → ((c : Condition) → names_discharge c ≡ true → is (latched_at (took cells r ∷ h)) c ≡ false)
    → discharge_at (took cells r ∷ h) ≡ (eqb (settings_at h).r334 0 || r.ignition)
discharge_on cells r h off =
    discharge_at_a_tick cells r h
    ∙ ap (λ t. not t && (eqb (settings_at h).r334 0 || r.ignition)) (discharge_unnamed (latched_at (took cells r ∷ h)) off)

-- with a condition latched, each switch that it names is off, at every moment
pub charge_is_off : (h : List Deed) (c : Condition) → is (latched_at h) c ≡ true → names_charge c ≡ true → charge_at h ≡ false
unfolding charge_at latched_at
charge_is_off [] c p q = refl
charge_is_off (took cells r ∷ h) c p q =
    ap (λ t. r.charger && not t) (charge_named (latched_at (took cells r ∷ h)) c p q) ∙ and-false r.charger
charge_is_off (wrote ps ∷ h) c p q = charge_is_off h c p q
charge_is_off (cleared ∷ h) c p q = charge_is_off h c p q
charge_is_off (forgot ∷ h) c p q = charge_is_off h c p q
charge_is_off (sent ∷ h) c p q = charge_is_off h c p q
charge_is_off (handed ∷ h) c p q = refl
charge_is_off (heard bytes ∷ h) c p q = charge_is_off h c p q
charge_is_off (fetched ∷ h) c p q = charge_is_off h c p q
charge_is_off (loaded es ∷ h) c p q = charge_is_off h c p q

pub discharge_is_off : (h : List Deed) (c : Condition) → is (latched_at h) c ≡ true → names_discharge c ≡ true → discharge_at h ≡ false
unfolding discharge_at latched_at
discharge_is_off [] c p q = refl
discharge_is_off (took cells r ∷ h) c p q =
    ap (λ t. not t && (eqb (settings_at h).r334 0 || r.ignition)) (discharge_named (latched_at (took cells r ∷ h)) c p q)
discharge_is_off (wrote ps ∷ h) c p q = discharge_is_off h c p q
discharge_is_off (cleared ∷ h) c p q = discharge_is_off h c p q
discharge_is_off (forgot ∷ h) c p q = discharge_is_off h c p q
discharge_is_off (sent ∷ h) c p q = discharge_is_off h c p q
discharge_is_off (handed ∷ h) c p q = refl
discharge_is_off (heard bytes ∷ h) c p q = discharge_is_off h c p q
discharge_is_off (fetched ∷ h) c p q = discharge_is_off h c p q
discharge_is_off (loaded es ∷ h) c p q = discharge_is_off h c p q

-- ---- the same of the board after any calls

module _ (cells per_km : ℕ) (cs : List Call) where
  abbrev after : Board
  after = after_in board (start_board cells per_km) cs

  -- what holds of the board that its deeds make
  holds_after : (P : Board → Type 0) → P (board_at cells per_km (deeds cells per_km cs)) → P after
  holds_after P = subst⁻¹ P (account cells per_km cs)

  pub kept_after : kept_of after.hire.events ≡ reverse (take capacity (kept_since (deeds cells per_km cs)))
  unfolding board_at
  kept_after = holds_after (λ b. kept_of b.hire.events ≡ reverse (take capacity (kept_since (deeds cells per_km cs))))
      (kept_shown (deeds cells per_km cs))

  pub new_after : new_of after.hire.events ≡ reverse (take capacity (new_since (deeds cells per_km cs)))
  unfolding board_at
  new_after = holds_after (λ b. new_of b.hire.events ≡ reverse (take capacity (new_since (deeds cells per_km cs))))
      (new_shown (deeds cells per_km cs))

  pub ranges_after : Fits after.pack.settings
  unfolding board_at
  ranges_after = holds_after (λ b. Fits b.pack.settings) (ranges cells per_km (reverse cs))

  pub charge_off_after : (c : Condition) → is after.pack.guard.latched c ≡ true → names_charge c ≡ true → after.hire.charge ≡ false
  unfolding board_at
  charge_off_after c = holds_after (λ b. is b.pack.guard.latched c ≡ true → names_charge c ≡ true → b.hire.charge ≡ false)
      (charge_is_off (deeds cells per_km cs) c)

  pub discharge_off_after : (c : Condition) → is after.pack.guard.latched c ≡ true → names_discharge c ≡ true
      → after.hire.discharge ≡ false
  unfolding board_at
  discharge_off_after c = holds_after (λ b. is b.pack.guard.latched c ≡ true → names_discharge c ≡ true → b.hire.discharge ≡ false)
      (discharge_is_off (deeds cells per_km cs) c)
