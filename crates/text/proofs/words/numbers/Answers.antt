-- Each turn reads one word more and enters it. Assumes nothing.
use Rattle.std.proofs.Common.{refl, sym, ◌∙◌, rules}
use Rattle.text.proofs.Entering.{none_entered, one_entered}
use Rattle.text.proofs.words.numbers.Goals as goal

pub loop-at-init : goal.loop-at-init
loop-at-init c = (refl, none_entered c.next_word-at.ensures)

pub loop-at-preserved : goal.loop-at-preserved
loop-at-preserved c = (
  search rules,
  one_entered c.loop-at.invariant.1 (sym c.in_ok-number.was ∙ c.digits.ensures.read) c.next_word-at-in-loop-at.ensures
      (search rules) (search rules),
)
