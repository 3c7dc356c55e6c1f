-- Pulses held to 2^48 give the distance that all pulses give, since past them it stands at its end. Assumes nothing.
use borrow.Author.Tests.{ne_eqb}
use borrow.Author.Rules.{rules}
use Rattle.statistics.specs.Statistics.{distance_of}
use Rattle.statistics.proofs.Distance.{held}
use Rattle.statistics.proofs.Statistics.distance.Goals as goal

pub returns : goal.returns
unfolding distance_of
returns c = rw (ne_eqb _ _ c.if-per_km-eq0.false, c.min-2.ensures, c.min.ensures) (held _ _ (search rules) (search rules))
