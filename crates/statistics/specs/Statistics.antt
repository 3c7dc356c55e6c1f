-- Statistics since the last clear.
-- Assumes nothing.
use Rattle.std.specs.Prelude.{Bool, false, ◌&&◌, ◌||◌, not, cond, ℕ, ◌+◌, ◌*◌, ◌-◌, ◌/◌, min, max, eqb, ℤ, pos}
use Rattle.numbers.specs.Numbers.{low_half, high_half}
use Rattle.cells.specs.declared.Extremes.{Extremes}
use Rattle.signed.specs.Signed.{above, below, lower_of, higher_of, degrees_of}
use Rattle.readings.specs.declared.Readings.{Readings}
use Rattle.readings.specs.Readings.{connected}
use Rattle.guard.specs.declared.Conditions.{Conditions}
use Rattle.statistics.specs.declared.Temperatures.{Temperatures}
use Rattle.desk.specs.declared.Record.{Record}
use Rattle.statistics.specs.declared.Counts.{Counts}
use Rattle.statistics.specs.declared.Sums.{Sums}
use Rattle.statistics.specs.declared.Statistics.{Statistics}

-- pulses are summed exactly; past 2^48 every distance has stopped at its end
abbrev pub ridden_pulses : ℕ → ℕ → ℕ
ridden_pulses sum pulses = min 281474976710656 (sum + pulses)

-- distance in 0.01 km, the floor of 100·pulses / pulses per km (0 without a sensor), stopping at 2^32 - 1
unfoldable pub distance_of : ℕ → ℕ → ℕ
distance_of pulses per_km = cond (eqb per_km 0) 0 (min 4294967295 (100 * pulses / per_km))

-- a current in 100 mA, rounded down, in sixteen bits
abbrev pub hundreds : ℕ → ℕ
hundreds milliamps = min 65535 (milliamps / 100)

-- each count stops at 65,535
abbrev pub count_of : ℕ → Bool → ℕ
count_of n more = cond more (min 65535 (n + 1)) n

-- UV, OV, DOC, COC and ROC, OT latchings; entries into 0x91
unfoldable pub counts_of : Counts → Conditions → Conditions → Bool → Counts
counts_of c before after entered =
    record {
      uv = count_of c.uv (after.uv && not before.uv);
      ov = count_of c.ov (after.ov && not before.ov);
      doc = count_of c.doc (after.doc && not before.doc);
      charge = count_of (count_of c.charge (after.coc && not before.coc)) (after.roc && not before.roc);
      ot = count_of c.ot (after.ot && not before.ot);
      charging = count_of c.charging entered;
    }

-- minimum and maximum external temperature, once one was seen
abbrev pub with_external : Temperatures → ℤ → Temperatures
with_external t external =
    record {
      coldest = cond (connected external) (cond t.seen (lower_of external t.coldest) external) t.coldest;
      hottest = cond (connected external) (cond t.seen (higher_of t.hottest external) external) t.hottest;
      seen = t.seen || connected external;
    }

-- low byte minimum, high byte maximum in whole °C, 0 if none was seen
unfoldable pub temperatures_shown : Temperatures → ℕ
temperatures_shown t = cond t.seen (degrees_of t.coldest + 256 * degrees_of t.hottest) 0

-- W-214: the positive mA and the negative mA (as a positive number), each in 64 bits, stopping at the largest value
abbrev pub largest_sum : ℕ
largest_sum = 18446744073709551615

unfoldable pub summed_of : Sums → ℤ → Sums
summed_of s current =
    record { positive = min largest_sum (s.positive + above current); negative = min largest_sum (s.negative + below current) }

-- a tick's pulses, by which distance grows
unfoldable pub ridden_of : Statistics → ℕ → Statistics
ridden_of s pulses =
    record {
      temperatures = s.temperatures;
      counts = s.counts;
      sums = s.sums;
      pulses = ridden_pulses s.pulses pulses;
      drawn = s.drawn;
      fed = s.fed;
      difference = s.difference;
      cleared = s.cleared;
    }

-- all else that a tick counts: largest currents with or without the charger, largest cell difference, counts, temperatures, and both sums
unfoldable pub counted_of : Statistics → Readings → Extremes → Conditions → Conditions → Bool → Statistics
counted_of s r e before after entered =
    record {
      temperatures = with_external (with_external s.temperatures r.external1) r.external2;
      counts = counts_of s.counts before after entered;
      sums = summed_of s.sums r.current;
      pulses = s.pulses;
      drawn = max s.drawn (hundreds (below r.current));
      fed = max s.fed (hundreds (above r.current));
      difference = max s.difference (e.highest - e.lowest);
      cleared = s.cleared;
    }

-- everything at zero, but the lifetime at the clear
unfoldable pub cleared_at : ℕ → Statistics
cleared_at lifetime =
    record {
      temperatures = record { coldest = pos 0; hottest = pos 0; seen = false };
      counts = record { uv = 0; ov = 0; doc = 0; charge = 0; ot = 0; charging = 0 };
      sums = record { positive = 0; negative = 0 };
      pulses = 0;
      drawn = 0;
      fed = 0;
      difference = 0;
      cleared = lifetime;
    }

-- registers 100 to 117, on a board with those pulses per km
unfoldable pub register_of : Statistics → ℕ → ℕ → ℕ
register_of s per_km at =
    cond (eqb at 100) (low_half (distance_of s.pulses per_km))
    (cond (eqb at 101) (high_half (distance_of s.pulses per_km))
    (cond (eqb at 102) s.drawn
    (cond (eqb at 103) s.fed
    (cond (eqb at 104) s.difference
    (cond (eqb at 105) s.counts.uv
    (cond (eqb at 106) s.counts.ov
    (cond (eqb at 107) s.counts.doc
    (cond (eqb at 108) s.counts.charge
    (cond (eqb at 109) s.counts.ot
    (cond (eqb at 111) s.counts.charging
    (cond (eqb at 113) (temperatures_shown s.temperatures)
    (cond (eqb at 116) (low_half s.cleared)
    (cond (eqb at 117) (high_half s.cleared)
    0)))))))))))))

-- ---- W-214: the record that leaves at a handover

-- the sum of registers 105 to 109
abbrev pub latchings_of : Counts → ℕ
latchings_of c = c.uv + c.ov + c.doc + c.charge + c.ot

-- pack number, seconds since that clear, both sums, distance, and the sum of registers 105 to 109
unfoldable pub bill_of : Statistics → ℕ → ℕ → ℕ → Record
bill_of s pack per_km lifetime =
    record {
      pack = pack;
      seconds = lifetime - s.cleared;
      positive = s.sums.positive;
      negative = s.sums.negative;
      distance = distance_of s.pulses per_km;
      latchings = latchings_of s.counts;
    }
