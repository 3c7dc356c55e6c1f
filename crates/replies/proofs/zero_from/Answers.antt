-- What is put from there on is zeros. Assumes nothing.
use Rattle.replies.proofs.Writing.{zeros_put}
use Rattle.replies.proofs.zero_from.Goals as goal

pub returns : goal.returns
returns c = zeros_put c.args.from c.min-from.ensures (c.fill.ensures.after (λ y e. e))
