-- Of the bytes passed none is other than zero unless one was found. Assumes nothing.
use Rattle.std.proofs.Common.{false, ℕ, List, ◌++◌, ◌≡◌, take}
use Rattle.text.specs.Digits.{used}
use Rattle.text.proofs.digits.is_used.Given as goal

abbrev pub invariant-loop-byte : goal.invariant-loop-byte
invariant-loop-byte l = l.found ≡ false → (front : List ℕ) → used (front ++ take l.byte-index l.bytes) ≡ used front
