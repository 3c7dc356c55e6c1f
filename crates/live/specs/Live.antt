-- Pack volts and amps, and the speed, as binary32 numbers.
-- Assumes nothing.
use Rattle.std.specs.Prelude.{cond, List, ℕ, ◌+◌, ◌*◌, min, eqb, ℤ, pos, negsuc, Float}
use Rattle.std.specs.Float.{binary32}
use Rattle.std.specs.Float.Ieee.{div, of_int, to_bits, is_nan}
use Rattle.laws.specs.Fold.{gather}
use Rattle.live.specs.declared.Live.{Live}
use Rattle.live.specs.declared.Speed.{Speed}
use Rattle.live.specs.declared.Speed.TheVariants.{NoSensor, KmPerHour}

-- a whole number that binary32 holds exactly: one within ±2^24, as every sum of an accepted tick is
abbrev pub exact : ℤ → ℤ
exact (pos n) = pos (min 16777216 n)
exact (negsuc n) = negsuc (min 16777215 n)

-- one division of whole numbers, rounded once (to nearest, ties to even)
abbrev pub quotient : ℤ → ℕ → Float
quotient n d = div binary32 (of_int binary32 (exact n)) (of_int binary32 (pos d))

-- the exact sum in 0.1 mV divided by 10000, and the mA divided by 1000, each one division
abbrev pub live_of : ℕ → ℤ → Live
live_of sum current = record { volts = quotient (pos sum) 10000; amps = quotient current 1000 }

-- before a tick, volts and amps are zero
abbrev pub no_live : Live
no_live = record { volts = of_int binary32 (pos 0); amps = of_int binary32 (pos 0) }

-- the bits of a binary32 number (no quotient here is without bits of its own)
unfoldable pub bits_of : Float → ℕ
bits_of x = cond (is_nan x) 0 (to_bits binary32 x)

-- with a sensor, 3600 times the pulses of the last ten ticks, divided once by pulses per km
abbrev pub speed_of : List ℕ → ℕ → Speed
speed_of window per_km = cond (eqb per_km 0) NoSensor (KmPerHour (quotient (pos (3600 * gather ◌+◌ 0 window)) per_km))

-- the bits that 54 and 55 show; no sensor shows 0
unfoldable pub speed_bits_of : Speed → ℕ
speed_bits_of NoSensor = 0
speed_bits_of (KmPerHour x) = bits_of x
