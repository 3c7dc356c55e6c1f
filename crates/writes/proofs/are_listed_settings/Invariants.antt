-- Each turn asks one register more. Assumes nothing.
use mathlib.Core.Path.{◌≡◌}
use Rattle.writes.specs.declared.Form.TheVariants as form
use Rattle.writes.specs.Writes.{pairs_of, all_settings}
use Rattle.writes.proofs.are_listed_settings.Given as goal

abbrev pub invariant-loop-i : goal.invariant-loop-i
invariant-loop-i l = (l.good ≡ all_settings (pairs_of form.List l.bytes l.i))
