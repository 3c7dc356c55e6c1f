-- The run ends where the next column is not set or there is none. Assumes nothing.
use mathlib.Core.Path.{sym, ◌∙◌}
use native.Mathlib.Omega.{arith}
use Rattle.drawing.proofs.Boxes.{not_ended, ends, ends_last}
use borrow.Author.Rules.{rules}
use Rattle.drawing.proofs.runs.Runs.ended.Goals as goal

pub returns-then-is_set : goal.returns-then-is_set
returns-then-is_set c =
    let args = c.args in
    (sym (not_ended args.self.now.of args.self.now.bits.now args.i c.is_set.ensures c.if-is_set.true), search rules)

pub returns-else-is_set : goal.returns-else-is_set
returns-else-is_set c =
    let args = c.args in
    (c.requires.0 ∙ sym (ends args.self.now.of args.self.now.bits.now args.i c.is_set.ensures c.if-is_set.false), omega arith)

pub returns-else-i-self : goal.returns-else-i-self
returns-else-i-self c =
    let args = c.args in
    (c.requires.0 ∙ sym (ends_last args.self.now.of args.self.now.bits.now args.i c.if-i-self.false), omega arith)
