-- Each turn puts one register more. Assumes nothing.
use mathlib.Core.Path.{◌≡◌}
use Rattle.writes.specs.Writes.{pairs_of, drafted_of}
use Rattle.settings.proofs.Drafts.{drafting}
use Rattle.writes.proofs.drafted.Given as goal

abbrev pub invariant-loop-i : goal.invariant-loop-i
invariant-loop-i l = drafting l.values ≡ drafted_of (drafting l.initial.values) (pairs_of l.form l.bytes l.i)
