-- Each turn puts one register more. Assumes nothing.
use mathlib.Core.Path.{◌≡◌, refl}
use native.Mathlib.Numerals.{add-one}
use native.Mathlib.Omega.{arith}
use Rattle.writes.specs.Writes.{pairs_of, drafted_of}
use Rattle.settings.proofs.Drafts.{put_among}
use Rattle.writes.proofs.drafted.Goals as goal

pub loop-i-init : goal.loop-i-init
unfolding pairs_of drafted_of
loop-i-init c = refl

pub loop-i-preserved : goal.loop-i-preserved
unfolding pairs_of drafted_of
loop-i-preserved c = rw (add-one, ← c.pair_at-pair.ensures) (put_among c.put_value.ensures c.loop-i.invariant)

pub returns : goal.returns
returns c =
    let all : c.loop-i.i ≡ c.args.count = omega arith in
    rw all at c.loop-i.invariant
