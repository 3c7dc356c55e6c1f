-- Each turn puts one of the twelve. Assumes nothing.
use native.Mathlib.Omega.{arith}
use Rattle.classes.proofs.Made.{one_laid, all_laid}
use borrow.Author.Rules.{rules}
use Rattle.classes.proofs.class.record_of.Goals as goal

pub loop-i-preserved : goal.loop-i-preserved
loop-i-preserved c =
    one_laid _ _ c.loop-i.invariant (search rules) c.register_at.ensures c.register.ensures c.put_low_first_16.ensures

pub returns : goal.returns
returns c = all_laid _ _ c.loop-i.invariant (omega arith)
