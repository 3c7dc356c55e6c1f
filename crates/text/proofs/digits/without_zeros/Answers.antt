-- Each turn leaves one zero out. Assumes nothing.
use Rattle.std.proofs.Common.{◌∙◌, arith, rules}
use Rattle.text.proofs.Zeros.{last_zero, last_used}
use Rattle.text.proofs.digits.without_zeros.Goals as goal

pub loop-rest-preserved : goal.loop-rest-preserved
loop-rest-preserved c =
    (last_zero c.loop-rest.rest.now (omega arith) (search rules) ∙ c.loop-rest.invariant.0, search rules)

pub returns-in_default-2 : goal.returns-in_default-2
returns-in_default-2 c = let i = c.loop-rest.invariant in (last_used c.loop-rest.rest.now (omega arith) (search rules) ∙ i.0, i.1)
