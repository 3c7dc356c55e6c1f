-- Told from the two sides of zero, of which one is 0. Assumes nothing.
use mir.Facts.{to_z-of_z}
use Rattle.cabinet.proofs.Laws.{amps_by_sides}
use Rattle.cabinet.proofs.amps.Goals as goal

pub returns : goal.returns
returns c =
    rw (
      c.discharging-drawn.ensures.0,
      c.negative.ensures,
      c.charging-fed.ensures.0,
      c.positive.ensures,
      to_z-of_z c.ranges.current,
    )
    (amps_by_sides c.args.current)
