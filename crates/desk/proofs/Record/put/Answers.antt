-- Six numbers in a row, or nothing. Assumes nothing.
use mathlib.Core.Path.{refl}
use borrow.Author.Tests.{ne_eqb}
use Rattle.refusals.specs.Refusals.{first}
use Rattle.numbers.proofs.Writing.{join_at}
use Rattle.desk.specs.Desk.{record_bytes}
use Rattle.desk.proofs.ReadBack.{whole}
use Rattle.desk.proofs.Record.put.Goals as goal

pub returns-then-bytes-ne-RECORD : goal.returns-then-bytes-ne-RECORD
unfolding first
returns-then-bytes-ne-RECORD c = record { outcome_is = rw (ne_eqb _ _ c.if-bytes-ne-RECORD.true); bytes = refl }

pub returns : goal.returns
unfolding record_bytes first
returns c =
    let long = c.if-bytes-ne-RECORD.false in
    let two = join_at c.put_low_first_32.ensures c.put_low_first_32-2.ensures refl in
    let four = join_at (join_at two c.put_low_first_64.ensures refl) c.put_low_first_64-2.ensures refl in
    let six = join_at (join_at four c.put_low_first_32-3.ensures refl) c.put_low_first_32-4.ensures refl in
    record { outcome_is = rw long; bytes = whole six long }
