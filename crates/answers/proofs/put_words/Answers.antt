-- Each turn puts one word more. Assumes nothing.
use native.Mathlib.Omega.{arith}
use lib.ListN.{get_or}
use lib.Seq.{get_or-take, length-take-le}
use Rattle.replies.specs.Replies.{words}
use Rattle.numbers.proofs.Writing.{none}
use Rattle.replies.proofs.Writing.{words_more}
use borrow.Author.Rules.{rules}
use Rattle.answers.proofs.put_words.Goals as goal

pub loop-i-init : goal.loop-i-init
unfolding words
loop-i-init c = none

pub loop-i-preserved : goal.loop-i-preserved
loop-i-preserved c =
    let args = c.args in
    let long = length-take-le args.count args.given.now (omega arith) in
    words_more args.high_first (λ k. get_or args.given.now k 0) c.loop-i.i _ c.loop-i.invariant c.put_word.ensures
    (get_or-take _ args.given.now c.loop-i.i 0 (omega arith)) (search rules)
