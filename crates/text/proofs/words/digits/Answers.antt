-- Each turn takes one digit in; where they end, the word ends or not. Assumes nothing.
use Rattle.std.proofs.Common.{◌≡◌, ◌+◌, true, false, drop, get_or, None}
use Rattle.text.specs.Scan.{taken_of}
use Rattle.text.proofs.Scanning.{run, one_scanned, a_digit, ran_up, ran_out, stop, taken_in, too_high, no_digit, no_end}
use Rattle.text.proofs.words.digits.Goals.{then-loop-next-test+else-is_ascii_digit, else-loop-next-test}
use Rattle.text.proofs.words.digits.Goals.{else-value-most-via-then-value-most+then-from-next+else-ends_word}
use Rattle.text.proofs.words.digits.Goals.{else-value-most-via-then-value-most+else-from-next, else-value-most-via-else-value-most}
use Rattle.text.proofs.words.digits.Goals as goal

pub loop-next-preserved : goal.loop-next-preserved
loop-next-preserved c =
    one_scanned c.loop-next.invariant c.with_digit-value.ensures c.loop-next-test.true
    (a_digit (get_or c.args.line.now c.loop-next.next 0) true c.is_ascii_digit.ensures.value c.if-is_ascii_digit.true)

pub returns-then-ends_word-clause-read : goal.returns-then-ends_word-clause-read
returns-then-ends_word-clause-read c =
    let args = c.args in
    let loop = c.loop-next in
    let place : loop.next ≡ args.from + run (drop args.from args.line.now) = elim c.loop-next-test.branch [
      | then-loop-next-test+else-is_ascii_digit w ↦ ran_up loop.invariant w.loop-next-test.true
          (a_digit (get_or args.line.now loop.next 0) false w.is_ascii_digit.ensures.value w.if-is_ascii_digit.false)
      | else-loop-next-test w ↦ ran_out loop.invariant w.loop-next-test.false
    ] in
    stop args.line.now args.from loop.value args.most loop.invariant place (taken_in args.line.now args.from loop.next loop.value args.most
    c.if-value-most.true c.if-from-next.true c.ends_word.ensures c.if-ends_word.true) c.requires

pub returns-else-value-most-clause-read : goal.returns-else-value-most-clause-read
returns-else-value-most-clause-read c =
    let args = c.args in
    let line = args.line.now in
    let loop = c.loop-next in
    let place : loop.next ≡ args.from + run (drop args.from line) = elim c.loop-next-test.branch [
      | then-loop-next-test+else-is_ascii_digit w ↦ ran_up loop.invariant w.loop-next-test.true
          (a_digit (get_or line loop.next 0) false w.is_ascii_digit.ensures.value w.if-is_ascii_digit.false)
      | else-loop-next-test w ↦ ran_out loop.invariant w.loop-next-test.false
    ] in
    let none : None ≡ taken_of line args.from loop.next loop.value args.most = elim c.else-value-most.branch [
      | else-value-most-via-then-value-most+then-from-next+else-ends_word w ↦ no_end line args.from loop.next loop.value args.most
          w.ends_word.ensures w.if-ends_word.false
      | else-value-most-via-then-value-most+else-from-next w ↦ no_digit line args.from loop.next loop.value args.most w.if-from-next.false
      | else-value-most-via-else-value-most w ↦ too_high line args.from loop.next loop.value args.most w.if-value-most.false
    ] in
    stop line args.from loop.value args.most loop.invariant place none c.requires
