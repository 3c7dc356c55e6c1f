-- Each kind in turn, by its bit. Assumes nothing.
use Rattle.spells.specs.Spells.{no_spells}
use Rattle.story.proofs.Loops.{none_noted, one_noted, all_noted}
use borrow.Author.Rules.{rules}
use Rattle.story.proofs.noted.Goals as goal

pub loop-spells-init : goal.loop-spells-init
loop-spells-init c = none_noted

pub loop-spells-preserved : goal.loop-spells-preserved
loop-spells-preserved c = one_noted no_spells c.loop-spells.invariant (search rules) c.with.ensures

pub returns : goal.returns
returns c = all_noted c.loop-spells.invariant (search rules)
