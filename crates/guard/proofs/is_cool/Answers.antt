-- Both sides are read back as the whole numbers that they are. Assumes nothing.
use Prim.Native.Nat.{◌<◌, ◌^◌}
use Rattle.std.proofs.Common.{arith, rules}
use Rattle.std.proofs.lemmas.Int.{ints}
use Rattle.guard.proofs.is_cool.Goals as goal

pub returns : goal.returns
returns c = let small : c.args.settings.r319 < 2 ^ 16 = search rules in grind (arith, ints)
