-- Each turn puts one word more. Assumes nothing.
use lib.ListN.{get_or}
use Rattle.numbers.specs.Numbers.{Wrote}
use Rattle.replies.specs.Replies.{word16, words}
use Rattle.answers.proofs.put_words.Given as goal

abbrev pub invariant-loop-i : goal.invariant-loop-i
invariant-loop-i l = Wrote l.initial.reply l.from (words (word16 l.high_first) (λ k. get_or l.given k 0) 0 l.i) l.reply
