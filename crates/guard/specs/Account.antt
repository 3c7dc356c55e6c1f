-- The guard from the ticks so far, the newest first, with no timer and no memory: what is latched, what is left of each wait and which
-- sensors are remembered, from when each condition held and recovered and when each sensor was connected.
-- Assumes nothing.
use Rattle.std.specs.Prelude.{Bool, false, List, [], ◌∷◌, ℕ, ◌*◌, ◌-◌}
use Rattle.laws.specs.History.{some, any, sum, newest, ago, stands, waits, since_latched}
use Rattle.cells.specs.Cells.{extremes_of}
use Rattle.settings.specs.declared.Settings.{Settings}
use Rattle.readings.specs.declared.Readings.{Readings}
use Rattle.readings.specs.Readings.{connected}
use Rattle.guard.specs.declared.Conditions.{Conditions}
use Rattle.guard.specs.declared.Waits.{Waits}
use Rattle.guard.specs.declared.Remembered.{Remembered}
use Rattle.guard.specs.declared.Guard.{Guard}
use Rattle.guard.specs.Guard.{cells_high_enough, cells_low_enough, remembered_cool, externals_mild, holds_of}

-- a tick, with the settings in force at it
pub record Moment : Type 0 where
  pub settings : Settings
  pub cells : List ℕ
  pub readings : Readings

abbrev pub holds : Moment → Conditions
holds m = holds_of m.settings m.readings (extremes_of m.cells)

abbrev pub wait_of : Moment → ℕ
wait_of m = 10 * m.settings.r332

-- ---- OT: the board remembers which sensors have been connected at any tick since OT latched, that tick included. OT recovers exactly if
-- each of those is connected and cool

-- the externals that were connected at any of these ticks
abbrev pub connected_at_any : List Moment → Remembered
connected_at_any ms =
    record { external1 = any (λ m. connected m.readings.external1) ms; external2 = any (λ m. connected m.readings.external2) ms }

-- at the newest of these ticks, each sensor that was connected at any of them is connected and cool
abbrev pub cool_again : List Moment → Bool
cool_again [] = false
cool_again (m ∷ ms) = remembered_cool m.settings m.readings (connected_at_any (m ∷ ms))

-- the ticks since OT latched
abbrev pub since_hot : List Moment → List Moment
since_hot ms = since_latched (λ m. (holds m).ot) cool_again ms

-- ---- all seven

-- latched: it held at a tick, and no later one recovered it; with a wait: fewer ticks since it last held than the wait of that tick
unfoldable pub latched_from : List Moment → Conditions
latched_from ms =
    record {
      uv = stands (λ m. (holds m).uv) (λ m. cells_high_enough m.settings (extremes_of m.cells)) ms;
      ov = stands (λ m. (holds m).ov) (λ m. cells_low_enough m.settings (extremes_of m.cells)) ms;
      ot = some (since_hot ms);
      doc = waits (λ m. (holds m).doc) wait_of ms;
      coc = waits (λ m. (holds m).coc) wait_of ms;
      roc = waits (λ m. (holds m).roc) wait_of ms;
      lt = stands (λ m. (holds m).lt) (λ m. externals_mild m.settings m.readings) ms;
    }

-- what is left: the wait of the tick at which it last held, less the ticks since
abbrev pub left_of : (Moment → Bool) → List Moment → ℕ
left_of held ms = sum (λ m. wait_of m - ago held ms) (newest held ms)

unfoldable pub waits_from : List Moment → Waits
waits_from ms = record { doc = left_of (λ m. (holds m).doc) ms; coc = left_of (λ m. (holds m).coc) ms; roc = left_of (λ m. (holds m).roc) ms }

unfoldable pub remembered_from : List Moment → Remembered
remembered_from ms = connected_at_any (since_hot ms)

abbrev pub guard_from : List Moment → Guard
guard_from ms = record { latched = latched_from ms; waits = waits_from ms; remembered = remembered_from ms }
