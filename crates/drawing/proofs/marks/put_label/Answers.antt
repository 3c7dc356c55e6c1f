-- Each label where it is asked for. Assumes nothing.
use Rattle.drawing.proofs.Times.{label_day, label_seconds, label_minutes, label_clock, day_put, label_put}
use Rattle.drawing.proofs.marks.put_label.Goals as goal

pub returns-then-is_day : goal.returns-then-is_day
returns-then-is_day c =
    let args = c.args in
    day_put args.second args.step args.ticks
    (label_day args.second args.step args.ticks c.is_day.ensures c.if-is_day.true)
    c.put_around.ensures

pub returns-then-step-lt60 : goal.returns-then-step-lt60
returns-then-step-lt60 c =
    let args = c.args in
    label_put args.second args.step args.ticks
    (label_seconds args.second args.step args.ticks c.is_day.ensures c.if-is_day.false c.if-step-lt60.true)
    c.put_around-then-step-lt60.ensures

pub returns-then-ticks : goal.returns-then-ticks
returns-then-ticks c =
    let args = c.args in
    label_put args.second args.step args.ticks
    (label_minutes args.second args.step args.ticks c.is_day.ensures c.if-is_day.false c.if-step-lt60.false c.if-ticks.true)
    c.put_around-then-ticks.ensures

pub returns : goal.returns
returns c =
    let args = c.args in
    label_put args.second args.step args.ticks
    (label_clock args.second args.step args.ticks c.is_day.ensures c.if-is_day.false c.if-step-lt60.false c.if-ticks.false)
    c.put_clock.ensures
