-- By cases on the place, each arm against its line of the definition. Assumes nothing.
use mir.Syntax.{w16, w32}
use borrow.Author.Tests.{ne_eqb}
use Rattle.signed.specs.Signed.{lower_of, higher_of}
use Rattle.signed.proofs.Read.{read}
use Rattle.cabinet.specs.Cabinet.{register_at}
use Rattle.cabinet.proofs.Laws.{bits_of_connected}
use Rattle.cabinet.proofs.Measured.register.Goals as goal

pub returns-in-0 : goal.returns-in-0
unfolding register_at
returns-in-0 c = rw (c.in-0.is, c.volts.ensures)

pub returns-in-1 : goal.returns-in-1
unfolding register_at
returns-in-1 c =
    let m = c.args.self in
    rw (c.in-1.is, c.amps.ensures, read w32 m.current c.struct_told-in-1-1.given.0.1)

pub returns-in-3 : goal.returns-in-3
unfolding register_at
returns-in-3 c =
    let m = c.args.self in
    rw (
      c.in-3.is,
      c.average.ensures,
      read w16 m.external1 c.struct_told-1.given.1.1.0.1,
      read w16 m.external2 c.struct_told-2-1.given.1.1.1.0.1,
    )

pub returns-in-13 : goal.returns-in-13
unfolding register_at
returns-in-13 c = rw (c.in-13.is, c.millivolts.ensures)

pub returns-in-14 : goal.returns-in-14
unfolding register_at
returns-in-14 c = rw (c.in-14.is, c.millivolts-in-14.ensures)

pub returns-in-16 : goal.returns-in-16
unfolding register_at
returns-in-16 c =
    let m = c.args.self in
    rw (
      c.in-16.is,
      c.of_connected.ensures,
      c.to_bits.ensures,
      read w16 c.higher.result c.higher.type_inv,
      c.higher.ensures,
      read w16 m.external1 c.struct_told-1.given.1.1.0.1,
      read w16 m.external2 c.struct_told-2-1.given.1.1.1.0.1,
    )
    (bits_of_connected m.external1 m.external2 (higher_of m.external1 m.external2))

pub returns-in-17 : goal.returns-in-17
unfolding register_at
returns-in-17 c =
    let m = c.args.self in
    rw (
      c.in-17.is,
      c.of_connected-in-17.ensures,
      c.to_bits-in-17.ensures,
      read w16 c.lower.result c.lower.type_inv,
      c.lower.ensures,
      read w16 m.external1 c.struct_told-1.given.1.1.0.1,
      read w16 m.external2 c.struct_told-2-1.given.1.1.1.0.1,
    )
    (bits_of_connected m.external1 m.external2 (lower_of m.external1 m.external2))

pub returns-in-18 : goal.returns-in-18
unfolding register_at
returns-in-18 c =
    let m = c.args.self in
    rw (c.in-18.is, c.to_bits-in-18.ensures, read w16 m.internal c.struct_told-in-18-1.given.1.0.1)

pub returns-in_default : goal.returns-in_default
unfolding register_at
returns-in_default c =
    let r = c.in_default.in_default-own.rest in
    simp (
      ne_eqb _ _ r.1,
      ne_eqb _ _ r.0.1,
      ne_eqb _ _ r.0.0.1,
      ne_eqb _ _ r.0.0.0.1,
      ne_eqb _ _ r.0.0.0.0.1,
      ne_eqb _ _ r.0.0.0.0.0.1,
      ne_eqb _ _ r.0.0.0.0.0.0.1,
      ne_eqb _ _ r.0.0.0.0.0.0.0.1,
    )
