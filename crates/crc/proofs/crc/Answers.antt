-- The sum gathers the bytes from the left; the table computes to the list that its rule asks for. Assumes nothing.
use mathlib.Core.Path.{refl}
use Rattle.laws.proofs.Folds.{done}
use Rattle.crc.specs.Crc.{shifted_out, times, crc_of}
use Rattle.crc.proofs.Listed.{by_list}
use borrow.Author.Rules.{rules}
use Rattle.crc.proofs.crc.Goals as goal

pub byte_in-sum-requires : goal.byte_in-sum-requires
unfolding times shifted_out
byte_in-sum-requires c = by_list refl

pub returns : goal.returns
unfolding crc_of
returns c = done c.loop-byte.invariant (search rules)
