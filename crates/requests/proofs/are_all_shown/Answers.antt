-- Each turn asks one address more. Assumes nothing.
use mathlib.Core.Path.{◌≡◌, refl}
use native.Mathlib.Numerals.{add-one}
use native.Mathlib.Omega.{arith}
use Rattle.requests.specs.Requests.{all_shown}
use Rattle.requests.proofs.are_all_shown.Goals as goal

pub loop-i-init : goal.loop-i-init
unfolding all_shown
loop-i-init c = refl

pub loop-i-preserved : goal.loop-i-preserved
unfolding all_shown
loop-i-preserved c = rw (add-one, c.is_in_one_range-good.ensures, c.address_at.ensures, c.loop-i.invariant)

pub returns : goal.returns
returns c =
    let all : c.loop-i.i ≡ c.args.count = omega arith in
    rw all at c.loop-i.invariant
