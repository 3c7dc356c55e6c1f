-- Each turn writes the last digit of what is left of the number. Assumes nothing.
use mathlib.Core.Path.{refl}
use Prim.Native.Nat.{◌/◌}
use native.Mathlib.Omega.{arith}
use Rattle.text.proofs.Decimal.{begun, one_more, first_digit, some_digit, more_long}
use borrow.Author.Rules.{rules}
use Rattle.text.proofs.digits.write_decimal.Goals as goal

pub overflow_sub-place : goal.overflow_sub-place
overflow_sub-place c = let some = some_digit c.args.number in search rules

pub loop-rest-init : goal.loop-rest-init
loop-rest-init c = let some = some_digit c.args.number in (refl, begun (omega arith))

pub overflow_sub-place-in-loop-rest : goal.overflow_sub-place-in-loop-rest
overflow_sub-place-in-loop-rest c =
    let rest = c.loop-rest.rest in
    let long = more_long rest (search rules) in
    let some = some_digit (rest / 10) in
    let ends = c.loop-rest.invariant.1.ends in
    search rules

pub loop-rest-preserved : goal.loop-rest-preserved
loop-rest-preserved c = (search rules, one_more c.loop-rest.invariant.1 c.last_digit.ensures (search rules))

pub bounds-out-at : goal.bounds-out-at
bounds-out-at c = omega (arith, some_digit c.args.number)

pub returns : goal.returns
returns c = first_digit c.loop-rest.invariant.1 c.last_digit-2.ensures (search rules) (search rules)
