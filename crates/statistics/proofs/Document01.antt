-- Document 01 on the statistics made of cells, currents and temperatures, written again from the paper: what a tick makes of registers
-- 102, 103, 104 and 113. The definitions that the code meets are these rules, for all statistics, readings and cells: so they round where
-- document 01 says so and nowhere else (W-206).
-- Assumes nothing.
use mathlib.Core.Path.{◌≡◌, refl, ap}
use mathlib.Core.Bool.{Bool, ◌||◌, cond}
use Prim.Native.Nat.{ℕ, suc, ◌+◌, ◌*◌, ◌-◌, ◌/◌, min, max}
use native.Mathlib.Omega.{arith}
use lib.IntN.{ℤ, pos, negsuc}
use lib.Signed.{le_z, lt_z}
use Rattle.cells.specs.declared.Extremes.{Extremes}
use Rattle.signed.specs.Signed.{above, below, degrees_of}
use Rattle.readings.specs.declared.Readings.{Readings}
use Rattle.guard.specs.declared.Conditions.{Conditions}
use Rattle.statistics.specs.declared.Temperatures.{Temperatures}
use Rattle.statistics.specs.declared.Statistics.{Statistics}
use Rattle.statistics.specs.Statistics.{hundreds, temperatures_shown, ridden_of, counted_of, register_of}

-- negative (as a positive number) and positive current in 100 mA, rounded down; a register has sixteen bits
abbrev pub drawn : ℤ → ℕ
drawn (pos n) = 0
drawn (negsuc n) = min 65535 (suc n / 100)

abbrev pub fed : ℤ → ℕ
fed (pos n) = min 65535 (n / 100)
fed (negsuc n) = 0

-- external -32768 (the least that there is): not connected
abbrev pub there : ℤ → Bool
there external = lt_z (negsuc 32767) external

-- minimum and maximum external temperature, kept in 0.1 °C
abbrev pub with_external : Temperatures → ℤ → Temperatures
with_external t external =
    record {
      coldest = cond (there external) (cond t.seen (cond (le_z external t.coldest) external t.coldest) external) t.coldest;
      hottest = cond (there external) (cond t.seen (cond (le_z t.hottest external) external t.hottest) external) t.hottest;
      seen = t.seen || there external;
    }

-- in whole °C, rounded toward minus infinity, held to -128 to 127; below zero 256 is added
abbrev pub byte_of : ℤ → ℕ
byte_of (pos tenths) = min 127 (tenths / 10)
byte_of (negsuc tenths) = 255 - min 127 (tenths / 10)

-- 113 low byte minimum, high byte maximum, 0 if none was seen
abbrev pub register113 : Temperatures → ℕ
register113 t = cond t.seen (byte_of t.coldest + 256 * byte_of t.hottest) 0

drawn_is : (current : ℤ) → hundreds (below current) ≡ drawn current
drawn_is (pos n) = refl
drawn_is (negsuc n) = refl

fed_is : (current : ℤ) → hundreds (above current) ≡ fed current
fed_is (pos n) = refl
fed_is (negsuc n) = refl

byte_is : (tenths : ℤ) → degrees_of tenths ≡ byte_of tenths
unfolding degrees_of
byte_is (pos n) = refl
byte_is (negsuc n) = omega arith

-- a tick: its pulses first, then all else that it counts
module _ (s : Statistics) (pulses : ℕ) (r : Readings) (e : Extremes) (before after : Conditions) (entered : Bool) (per_km : ℕ) where
  abbrev ticked : Statistics
  ticked = counted_of (ridden_of s pulses) r e before after entered

  -- 102, 103 largest negative and largest positive current
  pub largest_drawn : register_of ticked per_km 102 ≡ max (register_of s per_km 102) (drawn r.current)
  unfolding register_of ridden_of counted_of
  largest_drawn = ap (max s.drawn) (drawn_is r.current)

  pub largest_fed : register_of ticked per_km 103 ≡ max (register_of s per_km 103) (fed r.current)
  unfolding register_of ridden_of counted_of
  largest_fed = ap (max s.fed) (fed_is r.current)

  -- 104 largest cell difference, in the 0.1 mV of the cells
  pub largest_difference : register_of ticked per_km 104 ≡ max (register_of s per_km 104) (e.highest - e.lowest)
  unfolding register_of ridden_of counted_of
  largest_difference = refl

  pub temperatures : ticked.temperatures ≡ with_external (with_external s.temperatures r.external1) r.external2
  unfolding ridden_of counted_of
  temperatures = refl

pub shown : (s : Statistics) (per_km : ℕ) → register_of s per_km 113 ≡ register113 s.temperatures
unfolding register_of temperatures_shown
shown s per_km = λ i. cond s.temperatures.seen (byte_is s.temperatures.coldest i + 256 * byte_is s.temperatures.hottest i) 0
