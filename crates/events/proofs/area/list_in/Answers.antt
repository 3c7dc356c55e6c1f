-- Each turn copies one record. Assumes nothing.
use mathlib.Core.Path.{refl}
use native.Mathlib.Omega.{arith}
use Rattle.events.specs.Events.{capacity, no_event}
use Rattle.events.proofs.Records.{length_in, none_last, one_last, listed}
use borrow.Author.Rules.{rules}
use Rattle.events.proofs.area.list_in.Goals as goal

pub loop-i-init : goal.loop-i-init
loop-i-init c = (search rules, search rules, none_last no_event {n = capacity} (omega arith))

pub loop-i-preserved : goal.loop-i-preserved
loop-i-preserved c =
    let so_far = c.loop-i.invariant.2 in (
      search rules,
      search rules,
      one_last no_event so_far (omega arith)
          (omega (arith, length_in c.args.area.now)) refl c.record_in.ensures,
    )

pub returns : goal.returns
returns c =
    listed c.args.area.now c.loop-i.invariant.2 (omega arith)
    c.used_count-count.ensures.0
