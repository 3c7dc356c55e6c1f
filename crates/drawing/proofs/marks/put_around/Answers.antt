-- All of it, if there is room. Assumes nothing.
use mathlib.Core.Path.{◌∙◌}
use Prim.Native.Nat.{◌+◌}
use native.Mathlib.Omega.{arith}
use lib.ListN.{length}
use Rattle.text.proofs.Writing.{put_room, put_none, has}
use Rattle.drawing.proofs.Times.{around_wrote, around_long}
use Rattle.drawing.proofs.marks.put_around.Goals as goal

pub returns-then-has_room : goal.returns-then-has_room
returns-then-has_room c =
    let args = c.args in
    let digits = c.decimal_length in
    let all = length args.before.now + digits.result + length args.behind.now in
    let room = has (args.at + all) (length args.out.now) c.has_room.ensures c.if-has_room.true in
    put_room all
    (around_wrote args.before.now args.number args.behind.now c.put_text-first.ensures c.put_decimal-last.ensures
    c.put_text.ensures (omega (arith, digits.ensures.0)))
    (around_long args.before.now args.number args.behind.now ∙ omega (arith, digits.ensures.0))
    c.has_room.ensures
    c.if-has_room.true

pub returns : goal.returns
returns c =
    let args = c.args in
    let digits = c.decimal_length in
    put_none (length args.before.now + digits.result + length args.behind.now)
    (around_long args.before.now args.number args.behind.now ∙ omega (arith, digits.ensures.0))
    c.has_room.ensures
    c.if-has_room.false
