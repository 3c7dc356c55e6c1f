-- Part by part. Assumes nothing.
use Rattle.drawing.proofs.Outline.{outline_left}
use Rattle.drawing.proofs.band.band_left.Goals as goal

pub returns : goal.returns
returns c =
    let args = c.args in
    outline_left args.last args.tops.now args.bottoms.now args.room c.height.ensures
    c.digits.ensures.0 c.saturating_sub-opened.ensures
    c.left-turning.ensures c.height-2.ensures c.corner_length.ensures
    c.saturating_sub-turned.ensures c.left.ensures c.saturating_sub.ensures
