-- The part of 48 bytes, as far as the records go. Assumes nothing.
use mathlib.Core.Path.{◌≡◌, ap, ◌∙◌}
use mathlib.Core.List.{List}
use Prim.Native.Nat.{ℕ, ◌*◌, ◌<◌, ◌^◌, min}
use lib.ListN.{length}
use Rattle.std.proofs.Common.{arith, rules}
use Rattle.record.specs.Record.{record_of}
use Rattle.engine.proofs.Moments.{part}
use Rattle.engine.proofs.Week.record.Goals as goal

pub returns : goal.returns
returns c =
    let week = c.args.self.now in
    let fits : length week.records.now < 2 ^ 64 = search rules in
    let start : c.min-start.result ≡ min (48 * c.args.tick) (length week.records.now) = omega arith in
    c.of.ensures ∙ ap (λ (l : List ℕ). record_of l week.count) (part (48 * c.args.tick) 48 week.records.now start c.min.ensures)
