-- Each turn fills one place more, up to the twentieth. Assumes nothing.
use mathlib.Core.Path.{◌≡◌}
use lib.ListN.{length}
use Rattle.cabinet.proofs.Laws.{FilledTo}
use Rattle.cabinet.proofs.Measured.fill.Given as goal

abbrev pub invariant-loop-i : goal.invariant-loop-i
invariant-loop-i l = (length l.initial.slice ≡ 20) × FilledTo l.self l.initial.slice l.i l.slice
