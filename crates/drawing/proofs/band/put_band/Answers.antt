-- The outline, if there is room for it. Assumes nothing.
use Rattle.drawing.proofs.InTurn.{put_left, put_nowhere}
use Rattle.drawing.proofs.Outline.{no_band, some_band}
use Rattle.drawing.proofs.band.put_band.Goals as goal

pub returns-then-tops-eq0 : goal.returns-then-tops-eq0
returns-then-tops-eq0 c = no_band c.args.tops.now c.args.bottoms.now c.if-tops-eq0.true

pub returns-then-band_left-gt0 : goal.returns-then-band_left-gt0
returns-then-band_left-gt0 c =
    let args = c.args in
    some_band args.tops.now args.bottoms.now c.if-tops-eq0.false
    (put_left c.write_band.ensures c.band_left.ensures c.room_from.ensures c.if-band_left-gt0.true)

pub returns : goal.returns
returns c =
    let args = c.args in
    some_band args.tops.now args.bottoms.now c.if-tops-eq0.false
    (put_nowhere c.band_left.ensures c.room_from.ensures c.if-band_left-gt0.false)
