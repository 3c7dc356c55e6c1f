-- A kept event, or behind them an unused record. Assumes nothing.
use mathlib.Core.Path.{◌∙◌, sym}
use native.Mathlib.Omega.{arith}
use Rattle.events.proofs.Records.{saved_kept, saved_unused}
use borrow.Author.Rules.{rules}
use Rattle.events.proofs.Events.record_at.Goals as goal

pub returns-then-i-kept_count : goal.returns-then-i-kept_count
returns-then-i-kept_count c =
    c.kept_at.ensures
    ∙ sym (saved_kept c.args.self c.args.i
    (search rules) (omega arith))

pub returns : goal.returns
returns c =
    sym (saved_unused c.args.self c.args.i
    (search rules) (omega arith) (omega arith))
