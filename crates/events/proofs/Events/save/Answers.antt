-- Each turn puts one record more. Assumes nothing.
use mathlib.Core.Path.{refl}
use native.Mathlib.Omega.{arith}
use borrow.Author.Tests.{ne_eqb}
use Rattle.refusals.specs.Refusals.{first}
use Rattle.events.proofs.Records.{none_put, one_put, all_put, length_saved}
use borrow.Author.Rules.{rules}
use Rattle.events.proofs.Events.save.Goals as goal

pub returns-then-area-ne-AREA : goal.returns-then-area-ne-AREA
unfolding first
returns-then-area-ne-AREA c = record { outcome_is = rw (ne_eqb _ _ c.if-area-ne-AREA.true); area = refl }

pub loop-i-init : goal.loop-i-init
loop-i-init c = (
  search rules,
  c.if-area-ne-AREA.false,
  length_saved c.args.self
      (search rules),
  none_put,
)

pub put_low_first_32-requires : goal.put_low_first_32-requires
put_low_first_32-requires c = omega arith

pub loop-i-preserved : goal.loop-i-preserved
loop-i-preserved c =
    let (within, long, saved, so_far) = c.loop-i.invariant in (
      search rules,
      long,
      saved,
      one_put so_far (omega arith) (omega arith) c.record_at.ensures
          c.put_low_first_32.ensures,
    )

pub returns : goal.returns
returns c = let (within, long, saved, so_far) = c.loop-i.invariant in all_put so_far saved long (omega arith)
