-- Each turn counts one digit, and those of the tenth part are left. Assumes nothing.
use Prim.Native.Nat.{◌/◌}
use native.Mathlib.Omega.{arith}
use Rattle.text.proofs.Decimal.{one_long, more_long, some_digit, twenty}
use borrow.Author.Rules.{rules}
use Rattle.text.proofs.digits.decimal_length.Goals as goal

pub overflow_add-count : goal.overflow_add-count
overflow_add-count c =
    let number = c.args.number in
    let long = more_long c.loop-left.left (search rules) in
    let some = some_digit (c.loop-left.left / 10) in
    let most = twenty number (search rules) in
    search rules

pub loop-left-preserved : goal.loop-left-preserved
loop-left-preserved c = omega (arith, more_long c.loop-left.left (search rules))

pub returns : goal.returns
returns c =
    let long = one_long c.loop-left.left (search rules) in
    let most = twenty c.args.number (search rules) in
    (omega arith, omega arith)
