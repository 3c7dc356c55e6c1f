-- The rows of the three ranges, and then each address and its register, looked up in them. Assumes nothing.
use mathlib.Core.Path.{◌≡◌, ◌∙◌, ap}
use native.Mathlib.Omega.{arith}
use Rattle.std.proofs.Common.{rules, min}
use Rattle.laws.specs.Row.{row}
use Rattle.answers.specs.Making.{listed_by, looked_up}
use Rattle.answers.proofs.Blocks.{of_lists}
use Rattle.answers.proofs.registers.listed.Goals as goal

pub returns : goal.returns
returns c =
    let a = c.args in
    let lists = looked_up c.registers-readings.result c.registers-statistics.result c.registers-settings.result in
    let all : min 127 a.count ≡ a.count = omega (arith, c.requires) in
    c.words.ensures (listed_by lists a.request.now) (λ i v h p. search (rules, p))
    ∙ ap (row 127 (listed_by lists a.request.now)) all
    ∙ of_lists a.pack a.hire a.request.now a.count c.registers-readings.ensures c.registers-statistics.ensures c.registers-settings.ensures
