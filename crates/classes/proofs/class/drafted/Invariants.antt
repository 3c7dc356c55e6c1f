-- Each turn puts one register more. Assumes nothing.
use mathlib.Core.Path.{◌≡◌}
use Rattle.writes.specs.Writes.{drafted_of}
use Rattle.classes.specs.Store.{pairs_in}
use Rattle.settings.proofs.Drafts.{drafting}
use Rattle.classes.proofs.class.drafted.Given as goal

abbrev pub invariant-loop-i : goal.invariant-loop-i
invariant-loop-i l = drafting l.values ≡ drafted_of (drafting l.initial.values) (pairs_in l.class l.i)
