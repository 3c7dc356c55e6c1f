-- The guard's column, of the tick's moment. Assumes nothing.
use mathlib.Core.Path.{◌≡◌}
use Rattle.guard.specs.Guard.{no_waits}
use Rattle.engine.specs.Engine.{moment_at}
use Rattle.engine.proofs.Week.recovers.Goals as goal

pub returns : goal.returns
unfolding moment_at
returns c =
    let none : c.default.result ≡ no_waits =
    λ i. record { doc = c.default.ensures.0 i; coc = c.default.ensures.1.0 i; roc = c.default.ensures.1.1 i } in
    cc
