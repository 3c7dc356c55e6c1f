-- What the board shows: each register by its number. Registers stand in three ranges, 0 to 55, 100 to 117 and 300 to 399; an
-- unlisted register in a range reads 0.
-- Assumes nothing.
use Rattle.std.specs.Prelude.{Bool, ◌&&◌, cond, ℕ, leb, Option, Some, None}
use Rattle.settings.specs.Settings as settings
use Rattle.statistics.specs.Statistics as statistics
use Rattle.pack.specs.declared.Pack.{Pack}
use Rattle.hire.specs.declared.Hire.{Hire}
use Rattle.hire.specs.Registers.{reading_register}

-- the three ranges
abbrev pub in_readings : ℕ → Bool
in_readings at = leb at 55

abbrev pub in_statistics : ℕ → Bool
in_statistics at = leb 100 at && leb at 117

abbrev pub in_settings : ℕ → Bool
in_settings at = leb 300 at && leb at 399

-- a register outside the three ranges has no value
unfoldable pub shown_at : Pack → Hire → ℕ → Option ℕ
shown_at p h at =
    cond (in_readings at) (Some (reading_register h p.clock.seconds p.per_km at))
    (cond (in_statistics at) (Some (statistics.register_of h.statistics p.per_km at))
    (cond (in_settings at) (Some (settings.register_of p.settings at)) None))

-- a register's value, where 0 stands for none
abbrev pub value_of : Option ℕ → ℕ
value_of (Some v) = v
value_of None = 0

unfoldable pub value_at : Pack → Hire → ℕ → ℕ
value_at p h at = value_of (shown_at p h at)
