-- Each turn goes one byte of the word on. Assumes nothing.
use Rattle.std.proofs.Common.{arith, rules, drop}
use borrow.Author.Tests.{eq-eqb}
use Rattle.text.proofs.Places.{at_first, at_end}
use Rattle.text.proofs.Standing.{word_long}
use Rattle.text.proofs.words.word_end.Goals as goal

pub returns-then-line-end-eq-SPACE : goal.returns-then-line-end-eq-SPACE
returns-then-line-end-eq-SPACE c =
    let e = at_first c.loop-end.invariant.0 (search rules) (eq-eqb _ _ c.if-line-end-eq-SPACE.true) in
    (omega (arith, word_long (drop c.args.from c.args.line.now)), λ h. omega arith)

pub returns : goal.returns
returns c =
    let e = at_end c.loop-end.invariant.0 c.loop-end-test.false in
    (omega (arith, word_long (drop c.args.from c.args.line.now)), λ h. omega arith)
