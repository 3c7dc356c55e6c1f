-- P10 of document 01, and a current below zero, computed.
-- Assumes nothing.
use mathlib.Core.Path.{◌≡◌, refl}
use mathlib.Core.List.{[], ◌∷◌}
use lib.IntN.{pos, negsuc}
use lib.Ieee.{div, of_int, to_bits, is_nan}
use Rattle.live.specs.Live.{quotient, speed_of, speed_bits_of, bits_of}

-- P10: 2000 per km, 10 pulses in the window: 18 km/h, bits 0x41900000
pub P10 : speed_bits_of (speed_of (1 ∷ 1 ∷ 1 ∷ 1 ∷ 1 ∷ 1 ∷ 1 ∷ 1 ∷ 1 ∷ 1 ∷ []) 2000) ≡ 0x41900000
unfolding speed_bits_of bits_of to_bits div of_int is_nan
P10 = refl

-- -1.5 A; a pack of 30.972 V
amps_below_zero : bits_of (quotient (negsuc 1499) 1000) ≡ 0xBFC00000
unfolding bits_of to_bits div of_int is_nan
amps_below_zero = refl

volts : bits_of (quotient (pos 309720) 10000) ≡ 0x41F7C6A8
unfolding bits_of to_bits div of_int is_nan
volts = refl
