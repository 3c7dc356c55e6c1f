-- Each turn holds one byte more. Assumes nothing.
use Rattle.std.proofs.Common.{◌≡◌, length}
use Rattle.text.specs.Lines.{held_of}
use Rattle.text.proofs.Holding.{Holding}
use Rattle.text.proofs.lines.appended.Given as goal

abbrev pub invariant-loop-byte : goal.invariant-loop-byte
invariant-loop-byte l =
    (length l.line ≡ length l.initial.line) × Holding (held_of l.held l.initial.line) l.piece l.byte-index l.count l.line
