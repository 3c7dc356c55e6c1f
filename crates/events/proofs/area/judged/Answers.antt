-- The tests in their order. Assumes nothing.
use mathlib.Core.Path.{refl, sym, ap, ◌∙◌}
use Rattle.refusals.specs.Refusals.{first}
use Rattle.events.specs.Area.{load_rows}
use Rattle.events.proofs.Records.{by_records, decided}
use Rattle.events.proofs.area.judged.Goals as goal

pub returns-then-area : goal.returns-then-area
unfolding load_rows first
returns-then-area c = rw c.if-area.true

pub returns-then-is_used_from : goal.returns-then-is_used_from
unfolding first
returns-then-is_used_from c =
    let area = c.args.area.now in
    sym (by_records area c.if-area.false
    ∙ ap first (decided area c.used_count.ensures.0 c.is_used_from.ensures refl)
    ∙ rw c.if-is_used_from.true)

pub returns-then-has_never_recorded : goal.returns-then-has_never_recorded
unfolding first
returns-then-has_never_recorded c =
    let area = c.args.area.now in
    sym (by_records area c.if-area.false
    ∙ ap first (decided area c.used_count.ensures.0 c.is_used_from.ensures c.has_never_recorded.ensures)
    ∙ rw (c.if-is_used_from.false, c.if-has_never_recorded.true))

pub returns : goal.returns
unfolding first
returns c =
    let area = c.args.area.now in
    sym (by_records area c.if-area.false
    ∙ ap first (decided area c.used_count.ensures.0 c.is_used_from.ensures c.has_never_recorded.ensures)
    ∙ rw (c.if-is_used_from.false, c.if-has_never_recorded.false))
