-- An accepted tick is quiet if, with that tick's settings, both externals are connected, the readings meet the recovery column
-- of UV, OV, OT and LT, and none of DOC, COC and ROC holds.
-- Assumes nothing.
use Rattle.std.specs.Prelude.{Bool, true, ◌&&◌, not, List, [], ◌∷◌}
use Rattle.cells.specs.declared.Extremes.{Extremes}
use Rattle.cells.specs.Cells.{extremes_of}
use Rattle.settings.specs.declared.Settings.{Settings}
use Rattle.readings.specs.declared.Readings.{Readings}
use Rattle.readings.specs.Readings.{connected}
use Rattle.guard.specs.Guard.{cells_high_enough, cells_low_enough, cool, all_externals, externals_mild, holds_of}
use Rattle.guard.specs.Account.{Moment}

-- the recovery column of OT as document 01 has it: all connected < 10·r319 - 50. Where both externals are connected, W-204 asks no more
abbrev pub sensors_cool : Settings → Readings → Bool
sensors_cool s r = cool s r.internal && all_externals (cool s) r

unfoldable pub quiet : Settings → Readings → Extremes → Bool
quiet s r e =
    connected r.external1 && connected r.external2 && cells_high_enough s e && cells_low_enough s e && sensors_cool s r
    && externals_mild s r && not (holds_of s r e).doc && not (holds_of s r e).coc && not (holds_of s r e).roc

-- each of these ticks is quiet
abbrev pub all_quiet : List Moment → Bool
all_quiet [] = true
all_quiet (m ∷ ms) = quiet m.settings m.readings (extremes_of m.cells) && all_quiet ms
