-- Each turn counts the bytes of one line more. Assumes nothing.
use Rattle.std.proofs.Common.{◌≡◌, ◌*◌, ◌≤◌, length, take}
use Rattle.eventlines.specs.EventLines.{lines_of}
use Rattle.eventlines.proofs.lines_length.Given as goal

abbrev pub invariant-loop-event : goal.invariant-loop-event
invariant-loop-event l =
    (length l.event-items ≡ 8) × (l.all ≡ length (lines_of l.tick (take l.event-index l.event-items))) × (l.all ≤ 24 * l.event-index)
