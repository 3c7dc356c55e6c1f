-- The ticks of a recording as the history that the account of the guard asks for (W-211 of document 02). The records are the bytes after
-- the opening four; a byte that is missing reads 0. A recording writes no setting, so all ticks have the same. Assumes nothing.
use Rattle.std.specs.Prelude.{List, [], ◌∷◌, ℕ, zero, suc, ◌*◌, min, take, drop}
use Rattle.settings.specs.declared.Settings.{Settings}
use Rattle.guard.specs.Account.{Moment}
use Rattle.record.specs.declared.Record.{Record}
use Rattle.record.specs.Record.{record_of}

-- 48 bytes a tick; the first tick is tick 0 here
abbrev pub record_at : ℕ → List ℕ → ℕ → Record
record_at count s i = record_of (take 48 (drop (48 * i) s)) count

-- what a tick brings to a board with those settings and that cell count
unfoldable pub moment_at : Settings → ℕ → List ℕ → ℕ → Moment
moment_at settings count s i =
    record { settings = settings; cells = take (min 16 count) (record_at count s i).cells; readings = (record_at count s i).readings }

-- the first n ticks, the newest first
abbrev pub moments_of : Settings → ℕ → List ℕ → ℕ → List Moment
moments_of settings count s zero = []
moments_of settings count s (suc n) = moment_at settings count s n ∷ moments_of settings count s n
