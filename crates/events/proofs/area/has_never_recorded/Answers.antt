-- Each turn looks at one record more. Assumes nothing.
use native.Mathlib.Omega.{arith}
use mathlib.Core.Path.{ap, ◌∙◌}
use Rattle.laws.proofs.Looking.{any_asks, none_yet, not_here, found, nowhere}
use Rattle.events.specs.Events.{no_event}
use Rattle.events.specs.Area.{never_recorded}
use Rattle.events.proofs.Records.{length_in}
use borrow.Author.Rules.{rules}
use Rattle.events.proofs.area.has_never_recorded.Goals as goal

pub loop-i-init : goal.loop-i-init
loop-i-init c = (search rules, none_yet)

pub returns-then-is_never_recorded : goal.returns-then-is_never_recorded
returns-then-is_never_recorded c =
    found no_event (any_asks never_recorded) c.loop-i.invariant.1 (omega (arith, length_in c.args.area.now))
    (c.is_never_recorded.ensures ∙ ap never_recorded c.record_in.ensures) c.if-is_never_recorded.true

pub loop-i-preserved : goal.loop-i-preserved
loop-i-preserved c = (
  search rules,
  not_here no_event (any_asks never_recorded) c.loop-i.invariant.1 (omega (arith, length_in c.args.area.now))
      (c.is_never_recorded.ensures ∙ ap never_recorded c.record_in.ensures) c.if-is_never_recorded.false,
)

pub returns : goal.returns
returns c = nowhere no_event (any_asks never_recorded) c.loop-i.invariant.1 (omega (arith, length_in c.args.area.now))
