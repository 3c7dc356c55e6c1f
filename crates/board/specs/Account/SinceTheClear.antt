-- Statistics, from the history: what was counted since the clear.
-- Assumes nothing.
use Rattle.std.specs.Prelude.{Bool, ◌&&◌, not, cond, List, [], ◌∷◌, ◌++◌, map, ℕ, ◌+◌, ◌-◌, min, eqb, ℤ, pos}
use Rattle.laws.specs.History.{since, from, each, largest, sum, count, some}
use Rattle.cells.specs.Cells.{extremes_of}
use Rattle.guard.specs.declared.Condition.{Condition}
use Rattle.guard.specs.declared.Condition.TheVariants.{UV, OV, OT, DOC, COC, ROC}
use Rattle.guard.specs.Table.{latches}
use Rattle.readings.specs.declared.Readings.{Readings}
use Rattle.readings.specs.Readings.{connected}
use Rattle.signed.specs.Signed.{above, below, lower_of, higher_of}
use Rattle.statistics.specs.declared.Temperatures.{Temperatures}
use Rattle.statistics.specs.declared.Statistics.{Statistics}
use Rattle.statistics.specs.Statistics.{hundreds, distance_of, largest_sum}
use Rattle.board.specs.Deeds.{Deed, row, clears, ticking}
use Rattle.board.specs.Account.Kept.{seconds_at, latched_at}
use Rattle.board.specs.Account.LastTick.{status_at}

abbrev pub latching : Condition → List Deed → List Bool
latching c [] = []
latching c (d ∷ h) = map (λ t. latches (latched_at h) (latched_at (d ∷ h)) c) (row d).ticks

abbrev pub latchings : Condition → List Deed → ℕ
latchings c h = count (λ yes. yes) (each (latching c) (since clears h))

abbrev pub entering : List Deed → List Bool
entering [] = []
entering (d ∷ h) = map (λ t. eqb (status_at (d ∷ h)) 0x91 && not (eqb (status_at h) 0x91)) (row d).ticks

-- the connected externals of a tick, newest first
abbrev pub externals : List ℕ × Readings → List ℤ
externals t = cond (connected t.1.external2) (t.1.external2 ∷ []) [] ++ cond (connected t.1.external1) (t.1.external1 ∷ []) []

abbrev pub coldest_of : List ℤ → ℤ
coldest_of [] = pos 0
coldest_of (x ∷ []) = x
coldest_of (x ∷ y ∷ ys) = lower_of x (coldest_of (y ∷ ys))

abbrev pub hottest_of : List ℤ → ℤ
hottest_of [] = pos 0
hottest_of (x ∷ []) = x
hottest_of (x ∷ y ∷ ys) = higher_of (hottest_of (y ∷ ys)) x

abbrev pub temperatures_of : List ℤ → Temperatures
temperatures_of ts = record { coldest = coldest_of ts; hottest = hottest_of ts; seen = some ts }

-- the pulses since the clear
abbrev pub pulses_at : List Deed → ℕ
pulses_at h = sum (λ t. t.1.pulses) (each ticking (since clears h))

-- W-214: the positive mA and the negative mA (as a positive number) over accepted ticks since the clear
abbrev pub positive_at : List Deed → ℕ
positive_at h = sum (λ t. above t.1.current) (each ticking (since clears h))

abbrev pub negative_at : List Deed → ℕ
negative_at h = sum (λ t. below t.1.current) (each ticking (since clears h))

unfoldable pub statistics_at : List Deed → Statistics
statistics_at h =
    record {
      temperatures = temperatures_of (each externals (each ticking (since clears h)));
      counts =
          record {
            uv = min 65535 (latchings UV h);
            ov = min 65535 (latchings OV h);
            doc = min 65535 (latchings DOC h);
            charge = min 65535 (latchings COC h + latchings ROC h);
            ot = min 65535 (latchings OT h);
            charging = min 65535 (count (λ yes. yes) (each entering (since clears h)));
          };
      sums = record { positive = min largest_sum (positive_at h); negative = min largest_sum (negative_at h) };
      pulses = min 281474976710656 (pulses_at h);
      drawn = largest (map (λ t. hundreds (below t.1.current)) (each ticking (since clears h)));
      fed = largest (map (λ t. hundreds (above t.1.current)) (each ticking (since clears h)));
      difference = largest (map (λ t. (extremes_of t.0).highest - (extremes_of t.0).lowest) (each ticking (since clears h)));
      cleared = seconds_at (from clears h);
    }

-- the distance that is shown: exact since the clear, rounded once
unfoldable pub distance_at : ℕ → List Deed → ℕ
distance_at per_km h = distance_of (pulses_at h) per_km
