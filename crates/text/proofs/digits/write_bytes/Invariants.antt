-- Each turn writes one byte more. Assumes nothing.
use Rattle.std.proofs.Common.{◌≡◌, length, take}
use Rattle.text.specs.Digits.{bytes_text, Wrote}
use Rattle.text.proofs.digits.write_bytes.Given as goal

abbrev pub invariant-loop-byte : goal.invariant-loop-byte
invariant-loop-byte l =
    (length l.out ≡ length l.initial.out) × Wrote l.initial.out l.at (bytes_text (take l.byte-index l.bytes)) l.next l.out
