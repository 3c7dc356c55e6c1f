-- A board that is none, and then what the readings are judged to be. Assumes nothing.
use mathlib.Core.List.{[], ◌∷◌}
use mathlib.Core.Path.{◌∙◌}
use Rattle.std.proofs.lemmas.Result.{err_from_is_err_and}
use Rattle.refusals.specs.Refusals.{first}
use Rattle.refusals.proofs.Rows.{refused_part, done_part}
use Rattle.pack.specs.Pack.{start_outcome, tick_outcome}
use Rattle.pack.proofs.Pack.tick_outcome.Goals as goal

pub returns-in_err-outcome : goal.returns-in_err-outcome
unfolding tick_outcome start_outcome
returns-in_err-outcome c =
    let p = err_from_is_err_and c.from_residual.result c.from_residual.ensures.1 in
    rw (p.1, p.2) (refused_part (_ ∷ []) _ c.in_err-outcome.ensures)

pub returns : goal.returns
unfolding tick_outcome start_outcome
returns c = c.judged.ensures ∙ done_part (_ ∷ []) _ c.in_ok-outcome.ensures
