-- What a partner's charging cabinet reads (W-213): the registers 0x1000 to 0x1013, of what one tick read.
-- Assumes nothing.
use Rattle.std.specs.Prelude.{Bool, not, cond, List, [], ◌∷◌, ◌++◌, ◌≡◌, ℕ, zero, suc, ◌/◌, min, eqb, ℤ, pos, negsuc, neg_ℤ, ◌+ℤ◌, length}
use Rattle.signed.specs.Signed.{bits_of, lower_of, higher_of}
use Rattle.refusals.specs.declared.Refusal.{Refusal}
use Rattle.refusals.specs.declared.Refusal.TheVariants.{WrongSlice}
use Rattle.refusals.specs.Refusals.{Outcome, is_done, first}
use Rattle.cells.specs.declared.Extremes.{Extremes}
use Rattle.cells.specs.Cells.{sum_of, millivolts_of}
use Rattle.readings.specs.declared.Readings.{Readings}
use Rattle.readings.specs.Readings.{connected}
use Rattle.cabinet.specs.declared.Measured.{Measured}

-- pack voltage in 10 mV, rounded down, of the exact sum in 0.1 mV; past any board's 10,485, what sixteen bits hold
abbrev pub volts_of : ℕ → ℕ
volts_of sum = min (sum / 100) 65535

-- mA in 10 mA, rounded toward zero
abbrev pub toward_zero : ℤ → ℤ
toward_zero (pos n) = pos (n / 10)
toward_zero (negsuc n) = neg_ℤ (pos (suc n / 10))

-- held to -32768 to 32767
abbrev pub held_to16 : ℤ → ℤ
held_to16 (pos n) = pos (min n 32767)
held_to16 (negsuc n) = negsuc (min n 32767)

-- current in 10 mA, rounded toward zero and held to -32768 to 32767
abbrev pub amps_of : ℤ → ℤ
amps_of current = held_to16 (toward_zero current)

-- half, rounded toward minus infinity: negsuc k is -(k + 1), whose half goes down to -(k / 2 + 1)
abbrev pub half : ℤ → ℤ
half (pos k) = pos (k / 2)
half (negsuc k) = negsuc (k / 2)

-- of the connected externals: what both give, one alone as it is, 0 when none is connected
abbrev pub of_connected : ℤ → ℤ → ℤ → ℤ
of_connected first second both = cond (connected first) (cond (connected second) both first) (cond (connected second) second (pos 0))

-- the average of the connected externals, rounded toward minus infinity
abbrev pub average_of : ℤ → ℤ → ℤ
average_of first second = of_connected first second (half (first +ℤ second))

-- the highest connected external temperature
abbrev pub highest_of : ℤ → ℤ → ℤ
highest_of first second = of_connected first second (higher_of first second)

-- the lowest connected external temperature
abbrev pub lowest_of : ℤ → ℤ → ℤ
lowest_of first second = of_connected first second (lower_of first second)

-- the register at a place from 0x1000 on: 0x100D and 0x100E as registers 41 and 40; all others 0
unfoldable pub register_at : Measured → ℕ → ℕ
register_at m at =
    cond (eqb at 0) (volts_of m.sum)
    (cond (eqb at 1) (bits_of (amps_of m.current))
    (cond (eqb at 3) (bits_of (average_of m.external1 m.external2))
    (cond (eqb at 13) (millivolts_of m.highest)
    (cond (eqb at 14) (millivolts_of m.lowest)
    (cond (eqb at 16) (bits_of (highest_of m.external1 m.external2))
    (cond (eqb at 17) (bits_of (lowest_of m.external1 m.external2))
    (cond (eqb at 18) (bits_of m.internal)
    0)))))))

-- so many registers from 0x1000 on
unfoldable pub filled_of : Measured → ℕ → List ℕ
filled_of m zero = []
filled_of m (suc n) = filled_of m n ++ (register_at m n ∷ [])

-- of a tick's readings, its cells and the extremes of these
abbrev pub measured_of : Readings → List ℕ → Extremes → Measured
measured_of r cells extremes =
    record {
      current = r.current;
      internal = r.internal;
      external1 = r.external1;
      external2 = r.external2;
      sum = sum_of cells;
      lowest = extremes.lowest;
      highest = extremes.highest;
    }

-- 71, slice not exactly twenty, nothing written
abbrev pub cabinet_rows : ℕ → List (Refusal × Bool)
cabinet_rows n = (WrongSlice, not (eqb n 20)) ∷ []

pub record Fills (m : Measured) (before : List ℕ) (outcome : Outcome) (after : List ℕ) : Type 0 where
  pub outcome_is : outcome ≡ first (cabinet_rows (length before))
  pub slice : after ≡ cond (is_done outcome) (filled_of m 20) before
