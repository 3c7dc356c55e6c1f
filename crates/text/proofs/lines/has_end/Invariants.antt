-- Of the bytes passed none is an LF unless one was found. Assumes nothing.
use Rattle.std.proofs.Common.{false, ℕ, List, ◌++◌, ◌+◌, ◌≡◌, take}
use Rattle.text.specs.Lines.{until, is_end}
use Rattle.text.proofs.lines.has_end.Given as goal

abbrev pub invariant-loop-byte : goal.invariant-loop-byte
invariant-loop-byte l =
    l.found ≡ false → (rest : List ℕ) → until is_end (take l.byte-index l.bytes ++ rest) ≡ l.byte-index + until is_end rest
