-- The seven conditions, in the order of document 01's table: what holds, what recovers, and what is latched after a tick. OT recovers by
-- W-204 of document 02.
-- The cells enter by their lowest and highest; proofs/CellRows shows that the rows UV and OV then say what they say of all cells.
-- Assumes nothing.
use Rattle.std.specs.Prelude.{Bool, false, ◌&&◌, ◌||◌, not, cond, ℕ, ◌*◌, ◌-◌, eqb, leb, ltb, ℤ, pos, neg_ℤ, ◌+ℤ◌, ◌-ℤ◌, ◌*ℤ◌}
use Rattle.std.specs.Int.Signed.{le_z, lt_z}
use Rattle.cells.specs.declared.Extremes.{Extremes}
use Rattle.settings.specs.declared.Settings.{Settings}
use Rattle.readings.specs.declared.Readings.{Readings}
use Rattle.readings.specs.Readings.{connected}
use Rattle.guard.specs.declared.Conditions.{Conditions}
use Rattle.guard.specs.declared.Waits.{Waits}
use Rattle.guard.specs.declared.Remembered.{Remembered}
use Rattle.guard.specs.declared.Guard.{Guard}

-- UV holds: a cell ≤ 10·r316; recovers: all cells > 10·r316
abbrev pub cell_too_low : Settings → Extremes → Bool
cell_too_low s e = leb e.lowest (10 * s.r316)

abbrev pub cells_high_enough : Settings → Extremes → Bool
cells_high_enough s e = ltb (10 * s.r316) e.lowest

-- OV holds: a cell ≥ 10·r315; recovers: all < 10·r315 - 500
abbrev pub cell_too_high : Settings → Extremes → Bool
cell_too_high s e = leb (10 * s.r315) e.highest

abbrev pub cells_low_enough : Settings → Extremes → Bool
cells_low_enough s e = ltb e.highest (10 * s.r315 - 500)

-- of a sensor: ≥ 10·r319; < 10·r319 - 50
abbrev pub hot : Settings → ℤ → Bool
hot s t = le_z (pos (10 * s.r319)) t

abbrev pub cool : Settings → ℤ → Bool
cool s t = lt_z t (pos (10 * s.r319) -ℤ pos 50)

-- of a sensor: ≤ 10·r320; > 10·r320 + 50
abbrev pub cold : Settings → ℤ → Bool
cold s t = le_z t (pos 10 *ℤ s.r320)

abbrev pub mild : Settings → ℤ → Bool
mild s t = lt_z (pos 10 *ℤ s.r320 +ℤ pos 50) t

-- some connected external passes the test; all connected externals do
abbrev pub some_external : (ℤ → Bool) → Readings → Bool
some_external test r = connected r.external1 && test r.external1 || connected r.external2 && test r.external2

abbrev pub all_externals : (ℤ → Bool) → Readings → Bool
all_externals test r = (not (connected r.external1) || test r.external1) && (not (connected r.external2) || test r.external2)

-- OT holds: a connected sensor ≥ 10·r319. The internal one is always connected
abbrev pub sensor_hot : Settings → Readings → Bool
sensor_hot s r = hot s r.internal || some_external (hot s) r

-- the board remembers which sensors have been connected at any tick since OT latched: those of this tick join
abbrev pub with_connected : Remembered → Readings → Remembered
with_connected m r = record { external1 = connected r.external1 || m.external1; external2 = connected r.external2 || m.external2 }

-- OT recovers: each of those is connected and < 10·r319 - 50
abbrev pub remembered_cool : Settings → Readings → Remembered → Bool
remembered_cool s r m =
    cool s r.internal && ((not m.external1 || connected r.external1 && cool s r.external1)
    && (not m.external2 || connected r.external2 && cool s r.external2))

-- the memory is emptied at recovery
abbrev pub while_latched : Bool → Remembered → Remembered
while_latched latched m = record { external1 = latched && m.external1; external2 = latched && m.external2 }

-- LT holds: a connected external ≤ 10·r320; recovers: an external connected, all such > 10·r320 + 50
abbrev pub external_cold : Settings → Readings → Bool
external_cold s r = some_external (cold s) r

abbrev pub externals_mild : Settings → Readings → Bool
externals_mild s r = (connected r.external1 || connected r.external2) && all_externals (mild s) r

-- DOC holds: current ≤ -1000·r317
abbrev pub drawn_too_much : Settings → Readings → Bool
drawn_too_much s r = le_z r.current (neg_ℤ (pos (1000 * s.r317)))

-- current ≥ 1000·r318: COC with the charger, ROC without
abbrev pub fed_too_much : Settings → Readings → Bool
fed_too_much s r = le_z (pos (1000 * s.r318)) r.current

-- the column 'Holds'
unfoldable pub holds_of : Settings → Readings → Extremes → Conditions
holds_of s r e =
    record {
      uv = cell_too_low s e;
      ov = cell_too_high s e;
      ot = sensor_hot s r;
      doc = drawn_too_much s r;
      coc = r.charger && fed_too_much s r;
      roc = not r.charger && fed_too_much s r;
      lt = external_cold s r;
    }

-- what is left of a wait: 10·r332 ticks, r332 as at the latest tick at which the condition held, all since then without it
abbrev pub wait_of : Settings → Bool → ℕ → ℕ
wait_of s holds left = cond holds (10 * s.r332) (left - 1)

unfoldable pub waits_of : Settings → Conditions → Waits → Waits
waits_of s holds w =
    record { doc = wait_of s holds.doc w.doc; coc = wait_of s holds.coc w.coc; roc = wait_of s holds.roc w.roc }

-- the column 'Recovers', with the waits that are left after this tick and the sensors remembered with it; a wait is over when nothing is
-- left of it
unfoldable pub recovers_of : Settings → Readings → Extremes → Waits → Remembered → Conditions
recovers_of s r e left m =
    record {
      uv = cells_high_enough s e;
      ov = cells_low_enough s e;
      ot = remembered_cool s r m;
      doc = eqb left.doc 0;
      coc = eqb left.coc 0;
      roc = eqb left.roc 0;
      lt = externals_mild s r;
    }

-- each latching when it holds and recovering when latched and its recovery holds
abbrev pub latch_of : Bool → Bool → Bool → Bool
latch_of latched holds recovers = holds || latched && not recovers

unfoldable pub latched_of : Conditions → Conditions → Conditions → Conditions
latched_of l holds recovers =
    record {
      uv = latch_of l.uv holds.uv recovers.uv;
      ov = latch_of l.ov holds.ov recovers.ov;
      ot = latch_of l.ot holds.ot recovers.ot;
      doc = latch_of l.doc holds.doc recovers.doc;
      coc = latch_of l.coc holds.coc recovers.coc;
      roc = latch_of l.roc holds.roc recovers.roc;
      lt = latch_of l.lt holds.lt recovers.lt;
    }

-- nothing latched, no wait, no sensor remembered
abbrev pub no_conditions : Conditions
no_conditions = record { uv = false; ov = false; ot = false; doc = false; coc = false; roc = false; lt = false }

abbrev pub no_waits : Waits
no_waits = record { doc = 0; coc = 0; roc = 0 }

abbrev pub none_remembered : Remembered
none_remembered = record { external1 = false; external2 = false }

abbrev pub no_guard : Guard
no_guard = record { latched = no_conditions; waits = no_waits; remembered = none_remembered }

-- a tick of the guard
abbrev pub waits_after : Guard → Settings → Readings → Extremes → Waits
waits_after g s r e = waits_of s (holds_of s r e) g.waits

abbrev pub latched_after : Guard → Settings → Readings → Extremes → Conditions
latched_after g s r e = latched_of g.latched (holds_of s r e) (recovers_of s r e (waits_after g s r e) (with_connected g.remembered r))

unfoldable pub guard_of : Guard → Settings → Readings → Extremes → Guard
guard_of g s r e =
    record {
      latched = latched_after g s r e;
      waits = waits_after g s r e;
      remembered = while_latched (latched_after g s r e).ot (with_connected g.remembered r);
    }
