-- Each field is what its own calls give. Assumes nothing.
use mir.Syntax.{w16, w32}
use Rattle.statistics.specs.Statistics.{counted_of}
use Rattle.signed.proofs.Read.{read}
use Rattle.statistics.proofs.Statistics.counted.Goals as goal

pub returns : goal.returns
unfolding counted_of
returns c =
    let r = c.args.readings in
    rw (
      c.with-temperatures.ensures,
      c.with.ensures,
      read w16 r.external1 c.struct_told-1.given.1.1.0.1,
      read w16 r.external2 c.struct_told-2-1.given.1.1.1.0.1,
      c.next-counts.ensures,
      c.with-sums.ensures,
      c.max-drawn.ensures,
      c.in_hundreds.ensures,
      c.negative.ensures,
      c.max-fed.ensures,
      c.in_hundreds-2.ensures,
      c.positive.ensures,
      read w32 r.current c.struct_told-3-1.given.0.1,
      c.max-difference.ensures,
      c.difference.ensures,
    )
