-- The places move by one, the new event is last, and both counts stop at the capacity. Assumes nothing.
use Rattle.std.proofs.Common.{◌-◌, rules}
use Rattle.events.specs.Events.{add_of, capacity}
use Rattle.events.proofs.Moved.{moved}
use Rattle.events.proofs.Events.add.Goals as goal

pub returns : goal.returns
unfolding add_of
returns c =
    rw (
      moved c.args.self.list c.copy_within.new.self (capacity - 1) c.at.result (search rules) c.copy_within.ensures.after,
      c.at.ensures,
      c.one_more-kept.ensures,
      c.one_more-unsent.ensures,
    )
