-- Each turn compares one byte more. Assumes nothing.
use Rattle.text.proofs.Standing.{Same}
use Rattle.text.proofs.words.after_word.Given as goal

abbrev pub invariant-loop-code : goal.invariant-loop-code
invariant-loop-code l = Same l.word l.line l.from l.code-index l.at
