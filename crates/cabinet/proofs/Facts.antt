-- W-213 at its ends, computed; and the most that a pack's voltage is.
-- Assumes nothing.
use mathlib.Core.Path.{◌≡◌, refl}
use mathlib.Core.List.{[], ◌∷◌, map}
use Prim.Native.Nat.{ℕ, ◌/◌, ◌≤◌}
use native.Mathlib.Omega.{arith}
use lib.IntN.{ℤ, pos, negsuc}
use Rattle.signed.specs.Signed.{bits_of}
use Rattle.refusals.specs.Refusals.{number_of, first}
use Rattle.cabinet.specs.declared.Measured.{Measured}
use Rattle.cabinet.specs.Cabinet.{volts_of, amps_of, average_of, highest_of, lowest_of, register_at, filled_of, cabinet_rows}

-- the temperature of an external that is not connected
off : ℤ
off = negsuc 32767

-- both connected: -0.5 and 0 °C have the average -0.25, which is -0.3 when rounded toward minus infinity
both : (average_of (negsuc 4) (pos 0) ≡ negsuc 2) × (highest_of (negsuc 4) (pos 0) ≡ pos 0) × (lowest_of (negsuc 4) (pos 0) ≡ negsuc 4)
both = (refl, refl, refl)

above_zero : (average_of (pos 5) (pos 0) ≡ pos 2) × (average_of (pos 5) (pos 2) ≡ pos 3)
above_zero = (refl, refl)

-- one connected is all three by itself, and the other counts for nothing
one : (average_of (pos 251) off ≡ pos 251) × (highest_of off (negsuc 4) ≡ negsuc 4) × (lowest_of (pos 251) off ≡ pos 251)
    × (average_of off (negsuc 4) ≡ negsuc 4) × (highest_of (negsuc 4) off ≡ negsuc 4) × (lowest_of off (pos 251) ≡ pos 251)
unfolding off
one = (refl, refl, refl, refl, refl, refl)

-- none connected: all three 0
none : (average_of off off ≡ pos 0) × (highest_of off off ≡ pos 0) × (lowest_of off off ≡ pos 0)
unfolding off
none = (refl, refl, refl)

-- -32767, the least that is connected, and 32767
ends : (average_of (negsuc 32766) (negsuc 32766) ≡ negsuc 32766) × (average_of (negsuc 32766) (pos 32767) ≡ pos 0)
    × (average_of (pos 32767) (pos 32767) ≡ pos 32767) × (average_of (negsuc 32766) off ≡ negsuc 32766)
    × (bits_of (average_of (negsuc 32766) (negsuc 32766)) ≡ 0x8001)
unfolding off bits_of
ends = (refl, refl, refl, refl, refl)

-- sixteen cells of 65,535; 99 tenths of a mV are not 10 mV
volts : map volts_of (1048560 ∷ 100 ∷ 99 ∷ 0 ∷ 4294967295 ∷ []) ≡ 10485 ∷ 1 ∷ 0 ∷ 0 ∷ 65535 ∷ []
volts = refl

-- at most 10,485 of any sixteen cells, whose sum is at most 1,048,560: there nothing is held
volts_most : (sum : ℕ) → sum ≤ 1048560 → (volts_of sum ≤ 10485) × (volts_of sum ≡ sum / 100)
volts_most sum h = (omega arith, omega arith)

-- ±1,000,000 mA are past both ends
amps_held : (amps_of (pos 1000000) ≡ pos 32767) × (amps_of (negsuc 999999) ≡ negsuc 32767) × (bits_of (amps_of (negsuc 999999)) ≡ 0x8000)
unfolding bits_of
amps_held = (refl, refl, refl)

-- the ends themselves: 327,679 and -327,689 mA still round to them
amps_at_the_ends : (amps_of (pos 327669) ≡ pos 32766) × (amps_of (pos 327679) ≡ pos 32767) × (amps_of (negsuc 327678) ≡ negsuc 32766)
    × (amps_of (negsuc 327688) ≡ negsuc 32767)
amps_at_the_ends = (refl, refl, refl, refl)

-- toward zero: -1 mA is 0, -19 mA is -1, as 19 mA is 1
toward_zero : (amps_of (negsuc 0) ≡ pos 0) × (amps_of (negsuc 18) ≡ negsuc 0) × (amps_of (negsuc 19) ≡ negsuc 1) × (amps_of (pos 19) ≡ pos 1)
toward_zero = (refl, refl, refl, refl)

-- the lent slice of twenty: 33.600 V, -1.5 A, -0.5 and 25.0 °C, cells of 4,200.5 and 4,199.4 mV, 31.2 °C inside
read : Measured
read =
    record {
      current = negsuc 1499;
      internal = pos 312;
      external1 = negsuc 4;
      external2 = pos 250;
      sum = 336000;
      lowest = 41994;
      highest = 42005;
    }

twenty : filled_of read 20
    ≡ 3360 ∷ 65386 ∷ 0 ∷ 122 ∷ 0 ∷ 0 ∷ 0 ∷ 0 ∷ 0 ∷ 0 ∷ 0 ∷ 0 ∷ 0 ∷ 4201 ∷ 4199 ∷ 0 ∷ 250 ∷ 65531 ∷ 312 ∷ 0 ∷ []
unfolding read filled_of register_at bits_of
twenty = refl

-- 71, slice not exactly twenty
wrong_slice : map (λ n. number_of (first (cabinet_rows n))) (20 ∷ 19 ∷ 21 ∷ 0 ∷ 40 ∷ []) ≡ 0 ∷ 71 ∷ 71 ∷ 71 ∷ 71 ∷ []
unfolding first
wrong_slice = refl
