-- Each turn writes one step more. Assumes nothing.
use native.Mathlib.Omega.{arith}
use Rattle.text.proofs.Writing.{none}
use Rattle.drawing.proofs.InTurn.{turn_room, turn_more, turn_all}
use Rattle.drawing.proofs.Outline.{step_long, step_wrote}
use Rattle.drawing.specs.Paths.{step_at, side_text}
use mathlib.Core.Path.{refl}
use borrow.Author.Rules.{rules}
use Rattle.drawing.proofs.band.Side.write.Goals as goal

pub loop-k-init : goal.loop-k-init
loop-k-init c = none

pub write_step-next-requires : goal.write_step-next-requires
unfolding side_text
write_step-next-requires c =
    let args = c.args in
    let loop = c.loop-k in
    let step = step_at args.self.now.back args.self.now.heights.now args.self.now.last in
    let long = step_long args.self.now.back args.self.now.heights.now args.self.now.last loop.k refl c.edge.ensures.0 in
    let room = turn_room step args.self.now.last loop.k c.loop-k-test.true in
    (c.edge.ensures.1, omega (arith, long, loop.invariant.place, room, c.requires))

pub loop-k-preserved : goal.loop-k-preserved
loop-k-preserved c =
    let args = c.args in
    let loop = c.loop-k in
    turn_more (step_at args.self.now.back args.self.now.heights.now args.self.now.last) loop.k loop.invariant
    (step_wrote args.self.now.back args.self.now.heights.now args.self.now.last loop.k c.write_step-next.ensures c.edge.ensures.0)

pub returns : goal.returns
unfolding side_text
returns c =
    let args = c.args in
    let loop = c.loop-k in
    turn_all (step_at args.self.now.back args.self.now.heights.now args.self.now.last) args.self.now.last loop.k (search rules) c.loop-k-test.false
    loop.invariant
