-- One digit, or all of them if there is room for them. Assumes nothing.
use Rattle.text.proofs.Decimal.{one_digit_put}
use borrow.Author.Rules.{rules}
use Rattle.text.proofs.digits.put_decimal.Goals as goal

pub returns-then-number-lt10 : goal.returns-then-number-lt10
returns-then-number-lt10 c =
    one_digit_put c.args.number c.put.ensures
    (search rules) (search rules)
