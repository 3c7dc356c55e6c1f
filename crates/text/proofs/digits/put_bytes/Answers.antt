-- All bytes, if there is room for them. Assumes nothing.
use Prim.Native.Nat.{◌*◌}
use lib.ListN.{length}
use Rattle.text.proofs.Writing.{bytes_length, put_room, put_none}
use Rattle.text.proofs.digits.put_bytes.Goals as goal

pub returns-then-has_room_for_all : goal.returns-then-has_room_for_all
returns-then-has_room_for_all c =
    let args = c.args in
    put_room (3 * length args.bytes.now) c.write_bytes.ensures (bytes_length args.bytes.now)
    c.has_room_for_all.ensures c.if-has_room_for_all.true

pub returns : goal.returns
returns c =
    let args = c.args in
    put_none (3 * length args.bytes.now) (bytes_length args.bytes.now) c.has_room_for_all.ensures c.if-has_room_for_all.false
