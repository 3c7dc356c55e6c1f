-- From the first tick on, tick by tick, until one breaks it. Assumes nothing.
use mathlib.Core.Path.{refl, sym, ◌∙◌}
use Rattle.guard.specs.Table.{is}
use Rattle.engine.proofs.Stretch.{begun, next, broken}
use borrow.Author.Rules.{rules}
use Rattle.engine.proofs.Week.is_unbroken.Goals as goal

pub returns-then-not-held : goal.returns-then-not-held
unfolding is
returns-then-not-held c =
    broken (begun c.requires c.connected-seen.ensures (sym c.if-not-held.true ∙ c.held.ensures)) refl

pub loop-tick-init : goal.loop-tick-init
unfolding is
loop-tick-init c = begun c.requires c.connected-seen.ensures (sym c.if-not-held.false ∙ c.held.ensures)

pub returns-then-not-stays_hot : goal.returns-then-not-stays_hot
returns-then-not-stays_hot c =
    broken (next c.loop-tick.invariant (search rules) c.connected-now.ensures c.either-seen.ensures
    (sym c.if-not-stays_hot.true ∙ c.stays_hot.ensures)) refl

pub loop-tick-preserved : goal.loop-tick-preserved
loop-tick-preserved c =
    next c.loop-tick.invariant (search rules) c.connected-now.ensures c.either-seen.ensures
    (sym c.if-not-stays_hot.false ∙ c.stays_hot.ensures)
