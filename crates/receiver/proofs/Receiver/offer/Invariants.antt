-- Each turn takes one byte, until a frame is whole. Assumes nothing.
use mathlib.Core.Path.{◌≡◌}
use lib.ListN.{length}
use Rattle.receiver.proofs.Held.{receiver}
use Rattle.receiver.proofs.Filling.{Filling}
use Rattle.receiver.proofs.Receiver.offer.Given as goal

abbrev pub invariant-loop-taken : goal.invariant-loop-taken
invariant-loop-taken l = (length l.held ≡ 264) × Filling (receiver l.initial.held l.initial.count) (receiver l.held l.count) l.bytes l.taken
