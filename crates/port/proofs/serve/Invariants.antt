-- A turn takes what the rest of the bytes begin with, until none is left. Assumes nothing.
use Rattle.std.proofs.Common.{◌≡◌, length}
use Rattle.port.proofs.Turns.{Serving}
use Rattle.port.proofs.serve.Given as goal

abbrev pub invariant-loop-turns : goal.invariant-loop-turns
invariant-loop-turns g l =
    record { served : Serving l.initial.board l.bytes l.board l.rest l.turns; room : 259 ≡ length l.reply }
