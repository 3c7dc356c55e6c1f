-- The comma, where it stands. Assumes nothing.
use mathlib.Core.List.{[], ◌∷◌}
use Rattle.text.proofs.Writing.{none}
use Rattle.figures.proofs.Texts.{other, comma_put}
use Rattle.figures.proofs.write_comma.Goals as goal

pub returns-then-left : goal.returns-then-left
returns-then-left c = comma_put _ c.put.ensures c.if-left.true c.requires

pub returns : goal.returns
returns c = other _ (44 ∷ []) none c.if-left.false
