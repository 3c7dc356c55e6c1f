-- The text stands in its place. Assumes nothing.
use Rattle.std.proofs.Common.{refl, ◌-◌, ◌+◌, length, arith}
use Rattle.text.proofs.Writing.{put_in}
use Rattle.text.proofs.digits.write_text.Goals as goal

pub returns : goal.returns
returns c =
    let args = c.args in
    let at = args.at in
    let text = args.text.now in
    record {
      place = refl;
      bytes = put_in args.out.now text c.copy_from_slice.new.self at (at + length text - at) c.copy_from_slice.ensures.after (omega arith) c.requires;
    }
