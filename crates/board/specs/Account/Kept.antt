-- What a handover keeps, from the history: settings, time, and what the guard knows.
-- Assumes nothing.
use Rattle.std.specs.Prelude.{List, [], ◌∷◌, map, ℕ, ◌/◌, ◌%◌, min, length}
use Rattle.laws.specs.History.{never, since, each}
use Rattle.guard.specs.declared.Conditions.{Conditions}
use Rattle.guard.specs.declared.Waits.{Waits}
use Rattle.guard.specs.declared.Remembered.{Remembered}
use Rattle.guard.specs.Account.{Moment, latched_from, waits_from, remembered_from}
use Rattle.readings.specs.declared.Readings.{Readings}
use Rattle.settings.specs.declared.Settings.{Settings}
use Rattle.settings.specs.Settings as settings
use Rattle.signed.specs.Signed.{from_bits}
use Rattle.writes.specs.Writes.{last_of}
use Rattle.pack.specs.declared.Clock.{Clock}
use Rattle.board.specs.Deeds.{Deed, row, ticking, writing}

-- ---- settings: each is its last accepted write

abbrev pub last_written : {A : Type 0} → A → ℕ → (ℕ → A) → List Deed → A
last_written factory register value h = last_of factory register value (each writing (since never h))

unfoldable pub settings_at : List Deed → Settings
settings_at h =
    record {
      r301 = last_written (settings.factory).r301 301 (λ v. v) h;
      r303 = last_written (settings.factory).r303 303 (λ v. v) h;
      r308 = last_written (settings.factory).r308 308 (λ v. v) h;
      r315 = last_written (settings.factory).r315 315 (λ v. v) h;
      r316 = last_written (settings.factory).r316 316 (λ v. v) h;
      r317 = last_written (settings.factory).r317 317 (λ v. v) h;
      r318 = last_written (settings.factory).r318 318 (λ v. v) h;
      r319 = last_written (settings.factory).r319 319 (λ v. v) h;
      r320 = last_written (settings.factory).r320 320 from_bits h;
      r332 = last_written (settings.factory).r332 332 (λ v. v) h;
      r334 = last_written (settings.factory).r334 334 (λ v. v) h;
      r335 = last_written (settings.factory).r335 335 (λ v. v) h;
    }

-- ---- time: a second for every tenth accepted tick, stopping at 2^32 - 1

abbrev pub count_at : List Deed → ℕ
count_at h = length (each ticking (since never h))

unfoldable pub seconds_at : List Deed → ℕ
seconds_at h = min 4294967295 (count_at h / 10)

unfoldable pub clock_at : List Deed → Clock
clock_at h = record { seconds = seconds_at h; tenths = min 42949672959 (count_at h) % 10 }

-- ---- conditions: latched, waits and remembered sensors from the ticks so far, each with the settings in force at it (crate `guard`,
-- Account)

abbrev pub moment_of : Settings → List ℕ × Readings → Moment
moment_of s t = record { settings = s; cells = t.0; readings = t.1 }

abbrev pub moment : List Deed → List Moment
moment [] = []
moment (d ∷ h) = map (moment_of (settings_at h)) (row d).ticks

abbrev pub moments_at : List Deed → List Moment
moments_at h = each moment (since never h)

unfoldable pub latched_at : List Deed → Conditions
latched_at h = latched_from (moments_at h)

unfoldable pub waits_at : List Deed → Waits
waits_at h = waits_from (moments_at h)

unfoldable pub remembered_at : List Deed → Remembered
remembered_at h = remembered_from (moments_at h)
