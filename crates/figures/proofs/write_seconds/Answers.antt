-- The figure, and behind it the unit. Assumes nothing.
use Prim.Native.Nat.{◌+◌}
use native.Mathlib.Omega.{arith}
use Rattle.figures.proofs.Texts.{ended}
use Rattle.figures.proofs.write_seconds.Goals as goal

pub returns : goal.returns
returns c =
    let all =
    ended (c.args.at + 40) c.write_figure-unit.ensures.wrote c.put_text.ensures
    (omega (arith, c.write_figure-unit.ensures.upper_bound)) c.requires in
    record { wrote = all.0; upper_bound = all.1 }
