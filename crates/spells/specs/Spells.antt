-- What is kept of something that comes and goes, tick by tick.
-- Assumes nothing.
use Rattle.std.specs.Prelude.{Bool, false, ◌&&◌, not, cond, ℕ, ◌+◌, ◌-◌, min, eqb}
use Rattle.spells.specs.declared.Spells.{Spells}

-- before the first tick it never came
abbrev pub no_spells : Spells
no_spells = record { count = 0; ticks = 0; first = 0; last = 0; holds = false }

-- it comes where it holds and did not; where it no more holds, its spell is over, and took the ticks since it came; each in 64 bits,
-- stopping at the largest value
unfoldable pub with_tick : Spells → Bool → ℕ → Spells
with_tick s holds tick =
    record {
      count = cond (holds && not s.holds) (min 18446744073709551615 (s.count + 1)) s.count;
      ticks = cond (s.holds && not holds) (min 18446744073709551615 (s.ticks + (tick - s.last))) s.ticks;
      first = cond ((holds && not s.holds) && eqb s.count 0) tick s.first;
      last = cond (holds && not s.holds) tick s.last;
      holds = holds;
    }
