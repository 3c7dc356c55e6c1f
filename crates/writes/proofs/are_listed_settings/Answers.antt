-- Each turn asks one register more. Assumes nothing.
use mathlib.Core.Path.{◌≡◌, refl}
use native.Mathlib.Numerals.{add-one}
use native.Mathlib.Omega.{arith}
use Rattle.writes.specs.Writes.{pair_at, pairs_of, all_settings}
use Rattle.writes.proofs.are_listed_settings.Goals as goal

pub loop-i-init : goal.loop-i-init
unfolding pairs_of all_settings
loop-i-init c = refl

pub loop-i-preserved : goal.loop-i-preserved
unfolding pair_at pairs_of all_settings
loop-i-preserved c = rw (add-one, c.low_first_16-at.ensures, c.loop-i.invariant)

pub returns : goal.returns
returns c =
    let all : c.loop-i.i ≡ c.args.count = omega arith in
    rw all at c.loop-i.invariant
