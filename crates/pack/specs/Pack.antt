-- The pack is all that a handover keeps: start numbers, settings, lifetime with its tenths, latched conditions, waits, remembered sensors.
-- Assumes nothing.
use Rattle.std.specs.Prelude.{Bool, ◌&&◌, not, cond, [], ◌∷◌, ℕ, ◌+◌, leb, ltb}
use Rattle.cells.specs.declared.Extremes.{Extremes}
use Rattle.guard.specs.declared.Guard.{Guard}
use Rattle.guard.specs.Guard.{no_guard, guard_of}
use Rattle.readings.specs.declared.Readings.{Readings}
use Rattle.readings.specs.Readings.{tick_rows}
use Rattle.refusals.specs.declared.Refusal.{Refusal}
use Rattle.refusals.specs.declared.Refusal.TheVariants.{NoBoard}
use Rattle.refusals.specs.Refusals.{Outcome, first}
use Rattle.settings.specs.declared.Settings.{Settings}
use Rattle.settings.specs.Settings.{factory}
use Rattle.pack.specs.declared.Clock.{Clock}
use Rattle.pack.specs.declared.Pack.{Pack}

-- ---- a pack with one part anew

abbrev pub with_settings : Pack → Settings → Pack
with_settings p x = record { settings = x; guard = p.guard; clock = p.clock; cells = p.cells; per_km = p.per_km }

abbrev pub with_guard : Pack → Guard → Pack
with_guard p x = record { settings = p.settings; guard = x; clock = p.clock; cells = p.cells; per_km = p.per_km }

abbrev pub with_clock : Pack → Clock → Pack
with_clock p x = record { settings = p.settings; guard = p.guard; clock = x; cells = p.cells; per_km = p.per_km }

-- ---- start

-- settings begin at the factory values, everything else at zero
unfoldable pub new_pack : ℕ → ℕ → Pack
new_pack cells per_km =
    record { settings = factory; guard = no_guard; clock = record { seconds = 0; tenths = 0 }; cells = cells; per_km = per_km }

-- a cell count outside 4 to 16 gives no usable board
abbrev pub usable_count : ℕ → Bool
usable_count cells = leb 4 cells && leb cells 16

abbrev pub usable : Pack → Bool
usable p = usable_count p.cells

-- 21: cell count outside 4 to 16
abbrev pub no_board : Pack → Refusal × Bool
no_board p = (NoBoard, not (usable p))

unfoldable pub start_outcome : Pack → Outcome
start_outcome p = first (no_board p ∷ [])

-- ---- a tick

-- 21 before all other numbers, then the lowest that applies to the readings beside so many cells
unfoldable pub tick_outcome : Pack → Readings → ℕ → Outcome
tick_outcome p r given = first (no_board p ∷ tick_rows p.cells p.per_km given r)

-- every tenth accepted tick adds one second, stopping at 2^32 - 1
unfoldable pub later_of : Clock → Clock
later_of c =
    cond (ltb c.tenths 9) (record { seconds = c.seconds; tenths = c.tenths + 1 })
    (cond (ltb c.seconds 4294967295) (record { seconds = c.seconds + 1; tenths = 0 }) c)

unfoldable pub time_of : Pack → Pack
time_of p = with_clock p (later_of p.clock)

-- conditions, each latching when it holds and recovering when latched and its recovery holds
unfoldable pub conditions_of : Pack → Readings → Extremes → Pack
conditions_of p r e = with_guard p (guard_of p.guard p.settings r e)
