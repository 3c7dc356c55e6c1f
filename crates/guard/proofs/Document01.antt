-- Document 01's table of conditions, written again from the paper: what holds and what recovers, cells in 0.1 mV against settings in mV,
-- currents in mA against A, temperatures in 0.1 °C against °C; OT recovers by W-204. The definitions that the code meets are this table,
-- for all settings, readings, lowest and highest cells, waits and remembered sensors: so none of them rounds (W-206).
-- Assumes nothing.
use mathlib.Core.Path.{◌≡◌, refl}
use mathlib.Core.Bool.{Bool, ◌&&◌, ◌||◌, not, cond}
use Prim.Native.Nat.{ℕ, ◌*◌, ◌-◌}
use lib.Dec.{eqb, leb, ltb}
use lib.IntN.{ℤ, pos, negsuc, neg_ℤ, ◌+ℤ◌, ◌-ℤ◌, ◌*ℤ◌}
use lib.Signed.{le_z, lt_z}
use Rattle.cells.specs.declared.Extremes.{Extremes}
use Rattle.settings.specs.declared.Settings.{Settings}
use Rattle.readings.specs.declared.Readings.{Readings}
use Rattle.guard.specs.declared.Conditions.{Conditions}
use Rattle.guard.specs.declared.Waits.{Waits}
use Rattle.guard.specs.declared.Remembered.{Remembered}
use Rattle.guard.specs.declared.Guard.{Guard}
use Rattle.guard.specs.Guard.{holds_of, waits_of, recovers_of, latched_of, while_latched, guard_of}

-- external -32768 (the least that there is): not connected
abbrev pub there : ℤ → Bool
there external = lt_z (negsuc 32767) external

module _ (s : Settings) (r : Readings) (e : Extremes) where
  -- a connected external that is so
  abbrev pub some_external : (ℤ → Bool) → Bool
  some_external so = there r.external1 && so r.external1 || there r.external2 && so r.external2

  -- the column 'Holds'
  abbrev pub holds : Conditions
  holds =
      let hot : ℤ → Bool = λ t. le_z (pos (10 * s.r319)) t in
      record {
        uv = leb e.lowest (10 * s.r316);
        ov = leb (10 * s.r315) e.highest;
        ot = hot r.internal || some_external hot;
        doc = le_z r.current (neg_ℤ (pos (1000 * s.r317)));
        coc = r.charger && le_z (pos (1000 * s.r318)) r.current;
        roc = not r.charger && le_z (pos (1000 * s.r318)) r.current;
        lt = some_external (λ t. le_z t (pos 10 *ℤ s.r320));
      }

  -- the column 'Recovers', with what is left of each wait; OT by W-204: each remembered sensor is connected and < 10·r319 - 50
  abbrev pub recovers : Waits → Remembered → Conditions
  recovers left m =
      let cool : ℤ → Bool = λ t. lt_z t (pos (10 * s.r319) -ℤ pos 50) in
      let again : Bool → ℤ → Bool = λ was t. not was || there t && cool t in
      let mild : ℤ → Bool = λ t. not (there t) || lt_z (pos 10 *ℤ s.r320 +ℤ pos 50) t in
      record {
        uv = ltb (10 * s.r316) e.lowest;
        ov = ltb e.highest (10 * s.r315 - 500);
        ot = cool r.internal && (again m.external1 r.external1 && again m.external2 r.external2);
        doc = eqb left.doc 0;
        coc = eqb left.coc 0;
        roc = eqb left.roc 0;
        lt = (there r.external1 || there r.external2) && (mild r.external1 && mild r.external2);
      }

  -- a tick: the wait is 10·r332 ticks from the latest at which the condition held; what is latched follows from yes and no alone
  abbrev pub after : Guard → Guard
  after g =
      let wait : Bool → ℕ → ℕ = λ held left. cond held (10 * s.r332) (left - 1) in
      let w = g.waits in
      let left : Waits = record { doc = wait holds.doc w.doc; coc = wait holds.coc w.coc; roc = wait holds.roc w.roc } in
      let m = g.remembered in
      let seen : Remembered =
      record { external1 = there r.external1 || m.external1; external2 = there r.external2 || m.external2 } in
      let latched = latched_of g.latched holds (recovers left seen) in
      record { latched = latched; waits = left; remembered = while_latched latched.ot seen }

  pub column_holds : holds_of s r e ≡ holds
  unfolding holds_of
  column_holds = refl

  pub column_recovers : (left : Waits) (m : Remembered) → recovers_of s r e left m ≡ recovers left m
  unfolding recovers_of
  column_recovers left m = refl

  pub ticked : (g : Guard) → guard_of g s r e ≡ after g
  unfolding guard_of holds_of waits_of recovers_of
  ticked g = refl
