-- The day, and behind it the clock. Assumes nothing.
use mathlib.Core.Path.{refl}
use native.Mathlib.Omega.{arith}
use Rattle.text.proofs.Writing.{put_wrote}
use Rattle.figures.proofs.Texts.{time_wrote}
use Rattle.figures.proofs.write_time.Goals as goal

pub write_count-clock-requires : goal.write_count-clock-requires
write_count-clock-requires c =
    let day = put_wrote c.put_text-day.ensures (omega arith) in
    omega (arith, day.place)

pub returns : goal.returns
returns c =
    let all =
    time_wrote c.args.tick _ c.put_text-day.ensures (c.write_count-clock.ensures.wrote, c.write_count-clock.ensures.upper_bound) c.put_text.ensures
    c.clock_of.ensures refl c.requires in
    record { wrote = all.0; upper_bound = all.1 }
