-- Each turn takes one byte, until a frame is whole. Assumes nothing.
use Rattle.refusals.specs.Refusals.{first}
use Rattle.receiver.proofs.Held.{offered}
use Rattle.receiver.proofs.Filling.{begun, next, stopped, ended}
use Rattle.receiver.specs.Receiver.{is_held, offered_of}
use borrow.Author.Rules.{rules}
use Rattle.receiver.proofs.Receiver.offer.Goals as goal

pub returns-then-is_held : goal.returns-then-is_held
unfolding offered_of first
returns-then-is_held c = rw (← c.is_held.ensures.0, c.if-is_held.true)

pub loop-taken-init : goal.loop-taken-init
loop-taken-init c = (c.well_formed.0.1.1.0.1.0.1, begun)

pub slice_bounds-is_complete-end : goal.slice_bounds-is_complete-end
slice_bounds-is_complete-end c = let l = c.loop-taken.invariant.0 in search rules

pub returns-then-is_complete : goal.returns-then-is_complete
unfolding is_held
returns-then-is_complete c =
    offered (stopped c.loop-taken.invariant.1 (search rules) (rw c.is_complete.ensures.0 at c.if-is_complete.true))
    (rw c.is_held.ensures.0 at c.if-is_held.false)

pub slice_bounds-take_byte-end : goal.slice_bounds-take_byte-end
slice_bounds-take_byte-end c = let l = c.loop-taken.invariant.0 in search rules

pub take_byte-count-requires : goal.take_byte-count-requires
take_byte-count-requires c = (c.is_complete.ensures.1 c.if-is_complete.false, c.loop-taken.invariant.0)

pub loop-taken-preserved : goal.loop-taken-preserved
unfolding is_held
loop-taken-preserved c =
    let more = rw c.is_complete.ensures.0 at c.if-is_complete.false in
    (search rules, next c.loop-taken.invariant.1 (search rules) more c.take_byte-count.ensures.takes)

pub returns : goal.returns
returns c = offered (ended c.loop-taken.invariant.1 (search rules)) (rw c.is_held.ensures.0 at c.if-is_held.false)
