-- Each turn counts the bytes of one line more. Assumes nothing.
use Rattle.std.proofs.Common.{◌≡◌, ◌*◌, ◌≤◌, length, take}
use Rattle.text.specs.Digits.{each_text}
use Rattle.totallines.specs.TotalLines.{line_of}
use Rattle.totallines.proofs.lines_length.Given as goal

abbrev pub invariant-loop-value : goal.invariant-loop-value
invariant-loop-value l = (l.all ≡ length (each_text line_of (take l.value-index l.values))) × (l.all ≤ 21 * l.value-index)
