-- What is taken of the bytes, and the reply by that. Assumes nothing.
use mathlib.Core.Path.{sym, ◌∙◌}
use Rattle.answers.proofs.Taking.{taken_of, accepted, refused}
use Rattle.answers.proofs.answer.Goals as goal

pub put_accepted-requires : goal.put_accepted-requires
put_accepted-requires c = (taken_of c.args.pack c.args.request.now _ (sym c.in-Ok.is ∙ c.decide-decided.ensures)).asked

pub returns-in-Ok : goal.returns-in-Ok
returns-in-Ok c = accepted _ _ _ (sym c.in-Ok.is ∙ c.decide-decided.ensures) c.put_accepted.ensures

pub returns-in-Err : goal.returns-in-Err
returns-in-Err c = refused _ _ _ (sym c.in-Err.is ∙ c.decide-decided.ensures) c.put_refusal.ensures
