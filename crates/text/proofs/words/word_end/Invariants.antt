-- Each turn goes one byte of the word on. Assumes nothing.
use Rattle.std.proofs.Common.{◌≤◌, max, length}
use Rattle.text.specs.Words.{is_space}
use Rattle.text.proofs.Places.{Ahead}
use Rattle.text.proofs.words.word_end.Given as goal

abbrev pub invariant-loop-end : goal.invariant-loop-end
invariant-loop-end l = Ahead is_space l.line l.from l.end × (l.end ≤ max l.from (length l.line))
