-- The digits behind a minus, or at the next word. Assumes nothing.
use Rattle.std.proofs.Common.{◌+◌, ◌-◌, sym, ap, ◌∙◌, arith, rules}
use Rattle.text.specs.Words.{read_at}
use Rattle.text.specs.Numbers.{signed_of}
use Rattle.text.specs.Scan.{changed}
use Rattle.text.proofs.Reading.{below_zero}
use Rattle.text.proofs.words.signed_number.Goals as goal

pub returns-in_err-value : goal.returns-in_err-value
returns-in_err-value c =
    let args = c.args in
    let at = c.next_word-at in (
      c.from_residual.ensures ∙ ap (changed (λ n. args.most + 1 - n)) (sym c.in_err-value.was ∙ c.digits.ensures.read)
          ∙ below_zero args.line.now at.result args.most (sym c.is_minus.ensures ∙ c.if-is_minus.true)
          ∙ ap (read_at (signed_of args.most) args.line.now) at.ensures,
      search rules,
    )

pub returns-then-is_minus : goal.returns-then-is_minus
returns-then-is_minus c =
    let args = c.args in
    let at = c.next_word-at in (
      ap (changed (λ n. args.most + 1 - n)) (sym c.in_ok-value.was ∙ c.digits.ensures.read)
          ∙ below_zero args.line.now at.result args.most (sym c.is_minus.ensures ∙ c.if-is_minus.true)
          ∙ ap (read_at (signed_of args.most) args.line.now) at.ensures,
      omega arith,
    )
