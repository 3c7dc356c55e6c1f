-- Each turn asks one address more. Assumes nothing.
use mathlib.Core.Path.{◌≡◌}
use Rattle.requests.specs.Requests.{all_shown}
use Rattle.requests.proofs.are_all_shown.Given as goal

abbrev pub invariant-loop-i : goal.invariant-loop-i
invariant-loop-i l = l.good ≡ all_shown l.bytes l.i
