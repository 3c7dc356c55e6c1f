-- By the bytes at the place and behind it. Assumes nothing.
use Rattle.std.proofs.Common.{◌∙◌, arith, rules}
use Rattle.text.proofs.Reading.{no_low, both}
use Rattle.std.proofs.lemmas.Grind.{common_steps}
use Rattle.text.proofs.words.byte_at.Goals as goal

pub returns-in_err-low-clause-read : goal.returns-in_err-low-clause-read
returns-in_err-low-clause-read c =
    c.from_residual-in_err-low.ensures ∙ no_low c.args.line.now c.args.at (search rules) (grind (arith, common_steps))

pub returns-clause-read : goal.returns-clause-read
returns-clause-read c =
    c.then_some.ensures ∙ both c.args.line.now c.args.at (search rules) (grind (arith, common_steps)) (grind (arith, common_steps)) c.ends_word.ensures
