-- The number, and behind it the unit; or nothing. Assumes nothing.
use mathlib.Core.List.{[]}
use Prim.Native.Nat.{◌+◌}
use native.Mathlib.Omega.{arith}
use Rattle.text.proofs.Writing.{none}
use Rattle.figures.proofs.Texts.{ended, first, other}
use borrow.Author.Rules.{rules}
use Rattle.figures.proofs.write_part.Goals as goal

pub returns-then-is_told : goal.returns-then-is_told
returns-then-is_told c =
    let unit = c.put_text.ensures in
    let within = c.write_count-next.ensures.upper_bound in
    let all = ended (c.args.at + 32) c.write_count-next.ensures.wrote unit (omega (arith, within)) c.requires.0 in
    record { wrote = first _ [] all.0 c.if-is_told.true; upper_bound = all.1 }

pub returns : goal.returns
returns c = record { wrote = other _ _ none c.if-is_told.false; upper_bound = search rules }
