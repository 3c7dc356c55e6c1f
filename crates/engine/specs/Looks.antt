-- Only a way of making: what the engine's own parts find at a tick. What they come to is stated in the words of the guard's account.
-- Assumes nothing.
use Rattle.std.specs.Prelude.{Bool, ◌||◌, not, List}
use Rattle.laws.specs.History.{unbroken}
use Rattle.cells.specs.Cells.{extremes_of}
use Rattle.readings.specs.declared.Readings.{Readings}
use Rattle.readings.specs.Readings.{connected}
use Rattle.guard.specs.declared.Condition.{Condition}
use Rattle.guard.specs.declared.Conditions.{Conditions}
use Rattle.guard.specs.declared.Remembered.{Remembered}
use Rattle.guard.specs.Guard.{recovers_of, no_waits, none_remembered}
use Rattle.guard.specs.Table.{is}
use Rattle.guard.specs.Account.{Moment, holds, cool_again}

-- a row of the column 'Holds'
abbrev pub held : Condition → Moment → Bool
held c m = is (holds m) c

-- the column 'Recovers', with these sensors remembered. No wait is left there: the engine counts the ticks since
abbrev pub recovers_with : Remembered → Moment → Conditions
recovers_with seen m = recovers_of m.settings m.readings (extremes_of m.cells) no_waits seen

abbrev pub recovered : Condition → Moment → Bool
recovered c m = is (recovers_with none_remembered m) c

-- the externals that are connected at a tick; those of two ticks together
abbrev pub connected_at : Readings → Remembered
connected_at r = record { external1 = connected r.external1; external2 = connected r.external2 }

abbrev pub either_of : Remembered → Remembered → Remembered
either_of a b = record { external1 = a.external1 || b.external1; external2 = a.external2 || b.external2 }

-- OT holds at a tick, or is not recovered by those seen
abbrev pub stays_hot : Remembered → Moment → Bool
stays_hot seen m = (holds m).ot || not (recovers_with seen m).ot

abbrev pub unbroken_hot : List Moment → Bool
unbroken_hot ms = unbroken (λ m. (holds m).ot) cool_again ms
