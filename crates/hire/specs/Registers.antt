-- What a hire shows: registers 0 to 55, and the temperatures of 0x1B.
-- Assumes nothing.
use Rattle.std.specs.Prelude.{cond, ℕ, eqb, leb, get_or}
use Rattle.cells.specs.Cells.{millivolts_of}
use Rattle.live.specs.Live.{bits_of, speed_of, speed_bits_of}
use Rattle.numbers.specs.Numbers.{low_half, high_half}
use Rattle.signed.specs.Signed as signed
use Rattle.hire.specs.declared.Sensed.{Sensed}
use Rattle.hire.specs.declared.Hire.{Hire}

-- 0 to 15 cells, 32 lifetime, 36 to 39 pack volts and amps, 40 and 41 lowest and highest cell to the nearest mV, 42, 43, 48 temperatures,
-- 50 status, 51 and 52 balancing, 54 and 55 speed; an unlisted register reads 0
unfoldable pub reading_register : Hire → ℕ → ℕ → ℕ → ℕ
reading_register h lifetime per_km at =
    cond (leb at 15) (get_or h.sensed.cells at 0)
    (cond (eqb at 32) (low_half lifetime)
    (cond (eqb at 33) (high_half lifetime)
    (cond (eqb at 36) (low_half (bits_of h.sensed.live.volts))
    (cond (eqb at 37) (high_half (bits_of h.sensed.live.volts))
    (cond (eqb at 38) (low_half (bits_of h.sensed.live.amps))
    (cond (eqb at 39) (high_half (bits_of h.sensed.live.amps))
    (cond (eqb at 40) (millivolts_of h.sensed.extremes.lowest)
    (cond (eqb at 41) (millivolts_of h.sensed.extremes.highest)
    (cond (eqb at 42) (signed.bits_of h.sensed.readings.external1)
    (cond (eqb at 43) (signed.bits_of h.sensed.readings.external2)
    (cond (eqb at 48) (signed.bits_of h.sensed.readings.internal)
    (cond (eqb at 50) h.status
    (cond (eqb at 51) h.decision
    (cond (eqb at 52) h.balancing
    (cond (eqb at 54) (low_half (speed_bits_of (speed_of h.window per_km)))
    (cond (eqb at 55) (high_half (speed_bits_of (speed_of h.window per_km)))
    0))))))))))))))))

-- 0x1B: internal, external 1, external 2
abbrev pub temperature_at : Sensed → ℕ → ℕ
temperature_at s i =
    cond (eqb i 0) (signed.bits_of s.readings.internal)
    (cond (eqb i 1) (signed.bits_of s.readings.external1) (signed.bits_of s.readings.external2))
