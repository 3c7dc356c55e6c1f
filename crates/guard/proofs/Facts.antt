-- The limits of P6 of document 01 on the guard alone, of a cold sensor at zero, and the sensors that W-204 asks for, computed.
-- Assumes nothing.
use mathlib.Core.Path.{◌≡◌, refl}
use mathlib.Core.Bool.{true, false}
use Prim.Native.Nat.{ℕ}
use lib.IntN.{ℤ, pos, negsuc}
use Rattle.cells.specs.declared.Extremes.{Extremes}
use Rattle.readings.specs.declared.Readings.{Readings}
use Rattle.settings.specs.Settings.{factory}
use Rattle.guard.specs.declared.Remembered.{Remembered}
use Rattle.guard.specs.Guard.{cell_too_high, cells_low_enough, cold, remembered_cool, none_remembered}

between : ℕ → ℕ → Extremes
between low high = record { lowest = low; highest = high }

-- P6: 41,999 does not hold, 42,000 does; 41,500 does not recover, 41,499 does
over_voltage : (cell_too_high factory (between 40000 41999) ≡ false) × (cell_too_high factory (between 40000 42000) ≡ true)
    × (cells_low_enough factory (between 40000 41500) ≡ false) × (cells_low_enough factory (between 40000 41499) ≡ true)
unfolding between
over_voltage = (refl, refl, refl, refl)

-- 0.0 °C is cold at a limit of 0 °C, and 0.1 °C is not
at_zero : (cold factory (pos 0) ≡ true) × (cold factory (pos 1) ≡ false) × (cold factory (negsuc 0) ≡ true)
at_zero = (refl, refl, refl)

-- OT recovers exactly if each of those is connected and cool: external 2 is remembered, and is unplugged, at 55 °C, at 54.9 °C; unplugged,
-- it is missed only where it is remembered
with_external2 : ℤ → Readings
with_external2 t =
    record { current = pos 0; internal = pos 549; external1 = pos 549; external2 = t; pulses = 0; charger = false; ignition = false }

external2 : Remembered
external2 = record { external1 = false; external2 = true }

asked_for : (remembered_cool factory (with_external2 (negsuc 32767)) external2 ≡ false)
    × (remembered_cool factory (with_external2 (pos 550)) external2 ≡ false) × (remembered_cool factory (with_external2 (pos 549)) external2
    ≡ true) × (remembered_cool factory (with_external2 (negsuc 32767)) none_remembered ≡ true)
unfolding with_external2 external2
asked_for = (refl, refl, refl, refl)
