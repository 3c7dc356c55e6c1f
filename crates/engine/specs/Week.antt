-- The ticks of a recording on its board, as the plain engine has them. Assumes nothing.
use Rattle.std.specs.Prelude.{List, ℕ}
use Rattle.guard.specs.Account.{Moment}
use Rattle.engine.specs.declared.Week.{Week}
use Rattle.engine.specs.Engine.{moment_at, moments_of}

abbrev pub moment : Week → ℕ → Moment
moment w i = moment_at w.settings w.count w.records.now i

-- the first n ticks, the newest first
abbrev pub first_ticks : Week → ℕ → List Moment
first_ticks w n = moments_of w.settings w.count w.records.now n
