-- Record by record, until one is refused or none is left. Assumes nothing.
use mathlib.Core.Path.{◌∙◌}
use native.Mathlib.Omega.{arith}
use Rattle.totals.proofs.Records.{ends, stops, next}
use Rattle.totals.proofs.Totals.billed.Goals as goal

pub returns-in-Err : goal.returns-in-Err
returns-in-Err c =
    let (split, long) = c.in-Some.ensures.steps.1 in
    stops c.loop-record.invariant.0 _ _ split (long ∙ c.loop-record.invariant.1) c.of.ensures c.taken.ensures c.in-Err.is

pub loop-record-preserved : goal.loop-record-preserved
loop-record-preserved c =
    let (split, long) = c.in-Some.ensures.steps.1 in (
      next c.loop-record.invariant.0 _ _ split (long ∙ c.loop-record.invariant.1) c.of.ensures c.taken.ensures c.in-Ok.is,
      c.in-Some.ensures.steps.0 ∙ c.loop-record.invariant.1,
    )

pub returns : goal.returns
returns c = ends c.loop-record.invariant.0 c.cut_outcome.ensures (omega (arith, c.in-None.ensures.steps.1.0))
