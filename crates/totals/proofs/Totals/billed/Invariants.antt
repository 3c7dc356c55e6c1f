-- Record by record, until one is refused or none is left. Assumes nothing.
use mathlib.Core.Path.{◌≡◌}
use Rattle.desk.specs.Desk.{record_length}
use Rattle.totals.proofs.Records.{Going}
use Rattle.totals.proofs.Totals.billed.Given as goal

abbrev pub invariant-loop-record : goal.invariant-loop-record
invariant-loop-record l = Going l.initial.totals l.bytes l.totals l.record-iterator.rest.now × (l.record-iterator.size ≡ record_length)
