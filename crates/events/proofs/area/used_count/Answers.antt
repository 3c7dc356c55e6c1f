-- Each turn passes one used record. Assumes nothing.
use native.Mathlib.Omega.{arith}
use mathlib.Core.Path.{◌≡◌, ◌∙◌, ap}
use Rattle.events.specs.Events.{capacity}
use mathlib.Core.Bool.{not}
use Rattle.events.proofs.Records.{length_in, none_used, one_used, ended_used, all_used}
use borrow.Author.Rules.{rules}
use Rattle.events.proofs.area.used_count.Goals as goal

pub loop-i-init : goal.loop-i-init
loop-i-init c = (search rules, none_used)

pub returns-then-not-is_used : goal.returns-then-not-is_used
returns-then-not-is_used c = (
  ended_used c.loop-i.invariant.1 (omega (arith, length_in c.args.area.now)) c.record_in.ensures
      c.is_used.ensures (ap not c.if-not-is_used.true),
  search rules,
)

pub loop-i-preserved : goal.loop-i-preserved
loop-i-preserved c = (
  search rules,
  one_used c.loop-i.invariant.1 (omega (arith, length_in c.args.area.now))
      c.record_in.ensures c.is_used.ensures (ap not c.if-not-is_used.false),
)

pub returns : goal.returns
returns c =
    let e : capacity ≡ c.loop-i.i = omega arith in
    (e ∙ all_used c.loop-i.invariant.1 (omega (arith, length_in c.args.area.now)), search rules)
