-- A turn takes what the rest of the bytes begin with, until none is left. Assumes nothing.
use Rattle.std.proofs.Common.{rules, arith}
use Rattle.port.proofs.Turns.{next, out_of_turns}
use Rattle.port.proofs.serve.Goals as goal

pub loop-turns-preserved : goal.loop-turns-preserved
loop-turns-preserved g c =
    let s = c.loop-turns.invariant in
    record {
      served = next s.served c.answer-turn.ensures s.room c.min-in-loop-turns.ensures (search rules) (search rules);
      room = search rules;
    }

pub returns-else-is_empty : goal.returns-else-is_empty
returns-else-is_empty g c =
    let s = c.loop-turns.invariant in
    out_of_turns (next s.served c.answer-turn.ensures s.room c.min-in-loop-turns.ensures (search rules) (search rules)) (omega arith)
