-- The sum gathers the bytes from the left; the table computes to the list that its rule asks for. Assumes nothing.
use Rattle.laws.proofs.Folds.{Gathered}
use Rattle.crc.specs.Crc.{byte_in}
use Rattle.crc.proofs.crc.Given as goal

abbrev pub invariant-loop-byte : goal.invariant-loop-byte
invariant-loop-byte l = Gathered byte_in 0xFFFF l.sum l.bytes l.byte-index
