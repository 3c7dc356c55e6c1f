-- Each turn puts one register more. Assumes nothing.
use mathlib.Core.Path.{refl}
use native.Mathlib.Numerals.{add-one}
use Rattle.writes.specs.Writes.{drafted_of}
use Rattle.classes.specs.Store.{pairs_in}
use Rattle.settings.proofs.Drafts.{put_among}
use Rattle.classes.proofs.class.drafted.Goals as goal

pub loop-i-init : goal.loop-i-init
unfolding pairs_in drafted_of
loop-i-init c = refl

pub loop-i-preserved : goal.loop-i-preserved
unfolding pairs_in drafted_of
loop-i-preserved c =
    rw (add-one, ← c.low_first_16.ensures, ← c.register_at.ensures) (put_among c.put_value.ensures c.loop-i.invariant)
