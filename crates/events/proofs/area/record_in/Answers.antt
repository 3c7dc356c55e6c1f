-- Four bytes, by the call. Assumes nothing.
use Rattle.events.proofs.Records.{read}
use borrow.Author.Rules.{rules}
use Rattle.events.proofs.area.record_in.Goals as goal

pub returns : goal.returns
returns c = read c.args.area.now (search rules) c.low_first_32_or.ensures
