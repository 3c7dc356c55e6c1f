-- P11 of document 01, and where the distance and a count stop, computed.
-- Assumes nothing.
use mathlib.Core.Path.{◌≡◌, refl}
use mathlib.Core.Bool.{true, false}
use Rattle.guard.specs.declared.Conditions.{Conditions}
use Rattle.guard.specs.Guard.{no_conditions}
use Rattle.statistics.specs.declared.Counts.{Counts}
use Rattle.statistics.specs.Statistics.{distance_of, count_of, counts_of}

-- P11: 2000 per km: 39 pulses give 1, 40 give 2
pub P11 : (distance_of 39 2000 ≡ 1) × (distance_of 40 2000 ≡ 2)
unfolding distance_of
P11 = (refl, refl)

-- at 65,535 per km, 2^48 pulses are past the end of 2^32 - 1
ends : (distance_of 281474976710656 65535 ≡ 4294967295) × (distance_of 2814706816778 65535 ≡ 4294967294) × (distance_of 5 0 ≡ 0)
    × (count_of 65535 true ≡ 65535)
unfolding distance_of
ends = (refl, refl, refl, refl)

-- latchings are counted, not the ticks at which a condition stays latched
latched : Conditions
latched = record { uv = true; ov = true; ot = true; doc = true; coc = true; roc = false; lt = true }

none : Counts
none = record { uv = 0; ov = 0; doc = 0; charge = 0; ot = 0; charging = 0 }

counted_once : (counts_of none no_conditions latched false ≡ record { uv = 1; ov = 1; doc = 1; charge = 1; ot = 1; charging = 0 })
    × (counts_of none latched latched false ≡ none)
unfolding counts_of latched none
counted_once = (refl, refl)
