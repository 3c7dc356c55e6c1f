-- All lines, if there is room for them. Assumes nothing.
use mathlib.Core.Path.{sym}
use Prim.Native.Nat.{◌+◌}
use native.Mathlib.Omega.{arith}
use lib.ListN.{length}
use Rattle.text.proofs.Writing.{put_room, put_none, has}
use Rattle.totallines.proofs.put_values.Goals as goal

pub write_lines-requires : goal.write_lines-requires
write_lines-requires c =
    let long = c.lines_length in
    let args = c.args in
    let room = has (args.at + long.result) (length args.out.now) c.has_room.ensures c.if-has_room.true in
    omega (arith, long.ensures)

pub returns-then-has_room : goal.returns-then-has_room
returns-then-has_room c =
    put_room c.lines_length.result c.write_lines.ensures (sym c.lines_length.ensures)
    c.has_room.ensures c.if-has_room.true

pub returns : goal.returns
returns c =
    let long = c.lines_length in
    put_none long.result (sym long.ensures) c.has_room.ensures c.if-has_room.false
