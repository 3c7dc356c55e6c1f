-- By where the block begins: each range has its row. Assumes nothing.
use mathlib.Core.Path.{◌∙◌}
use native.Mathlib.Omega.{arith}
use Rattle.answers.proofs.Blocks.{block_of_readings, block_of_statistics, block_of_settings}
use Rattle.answers.proofs.registers.block.Goals as goal

pub returns-then-at-lt100 : goal.returns-then-at-lt100
returns-then-at-lt100 c =
    let a = c.args in
    c.registers.ensures ∙ block_of_readings a.pack a.hire a.at a.count c.requires c.if-at-lt100.true

pub returns-then-at-lt300 : goal.returns-then-at-lt300
returns-then-at-lt300 c =
    let a = c.args in
    c.registers-then-at-lt300.ensures ∙ block_of_statistics a.pack a.hire a.at a.count c.requires (omega arith) (omega arith)

pub returns : goal.returns
returns c =
    let a = c.args in
    c.registers-2.ensures ∙ block_of_settings a.pack a.hire a.at a.count c.requires (omega arith)
