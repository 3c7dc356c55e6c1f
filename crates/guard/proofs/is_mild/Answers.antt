-- Both sides are read back as the whole numbers that they are. Assumes nothing.
use lib.IntN.{pos, ◌+ℤ◌, ◌*ℤ◌}
use mathlib.Core.Path.{◌≡◌}
use mir.Syntax.{w16, w32}
use mir.Val.{SFits, to_z, of_z}
use Rattle.std.proofs.Common.{arith, rules}
use Rattle.std.proofs.lemmas.Int.{ints}
use Rattle.guard.proofs.is_mild.Goals as goal

pub returns : goal.returns
returns c =
    let small : SFits w16 c.args.settings.r320 = search rules in
    let limit : to_z w32 (of_z w32 (to_z w32 (of_z w32 (pos 10 *ℤ to_z w32 (of_z w32 c.from.result))) +ℤ pos 50))
    ≡ pos 10 *ℤ c.args.settings.r320 +ℤ pos 50 = omega (arith, ints) in
    rw limit (grind (arith, ints))
