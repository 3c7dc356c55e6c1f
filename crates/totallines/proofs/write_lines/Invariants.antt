-- Each turn writes one line more. Assumes nothing.
use Rattle.std.proofs.Common.{◌≡◌, length, take}
use Rattle.text.specs.Digits.{each_text, Wrote}
use Rattle.totallines.specs.TotalLines.{line_of}
use Rattle.totallines.proofs.write_lines.Given as goal

abbrev pub invariant-loop-value : goal.invariant-loop-value
invariant-loop-value l =
    (length l.out ≡ length l.initial.out) × Wrote l.initial.out l.at (each_text line_of (take l.value-index l.values)) l.next l.out
