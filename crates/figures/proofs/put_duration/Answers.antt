-- What is written in the room is put. Assumes nothing.
use native.Mathlib.Omega.{arith}
use Rattle.figures.proofs.Texts.{put_taken}
use Rattle.figures.proofs.put_duration.Goals as goal

pub returns : goal.returns
returns c =
    let text = c.write_duration-end.ensures in
    put_taken text.wrote (omega (arith, text.upper_bound)) c.put_text.ensures
