-- Each turn writes one line more. Assumes nothing.
use Rattle.std.proofs.Common.{◌≡◌, length, take}
use Rattle.text.specs.Digits.{Wrote}
use Rattle.eventlines.specs.EventLines.{lines_of}
use Rattle.eventlines.proofs.write_events.Given as goal

abbrev pub invariant-loop-event : goal.invariant-loop-event
invariant-loop-event l =
    (length l.event-items ≡ 8) × (length l.out ≡ length l.initial.out)
    × Wrote l.initial.out l.at (lines_of l.tick (take l.event-index l.event-items)) l.next l.out
