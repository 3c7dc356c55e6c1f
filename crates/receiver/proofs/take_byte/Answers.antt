-- A byte is skipped, or stored behind what is held. Assumes nothing.
use mathlib.Core.Path.{◌≡◌, sym}
use mathlib.Core.List.{List}
use Prim.Native.Nat.{ℕ, ◌<◌}
use native.Mathlib.Omega.{arith}
use lib.ListN.{length, take, length-take}
use Rattle.receiver.proofs.Held.{receiver, stored}
use Rattle.receiver.specs.Receiver.{with_byte}
use borrow.Author.Rules.{rules}
use Rattle.receiver.proofs.take_byte.Goals as goal

-- what is held, by the count
as_counted : {A : Type 0} (count : ℕ) (held : List A) → length (take count held) < 264 → length held ≡ 264 → length (take count held) ≡ count
as_counted count held free whole = let t = length-take count held in omega arith

pub returns-then-count-byte : goal.returns-then-count-byte
unfolding with_byte
returns-then-count-byte c = record { takes = rw (as_counted c.args.count c.args.held.now c.requires.0 c.requires.1, c.if-count-byte.true) }

pub bounds-held-count : goal.bounds-held-count
bounds-held-count c = let n = as_counted c.args.count c.args.held.now c.requires.0 c.requires.1 in search rules

pub overflow_add-result : goal.overflow_add-result
overflow_add-result c = let n = as_counted c.args.count c.args.held.now c.requires.0 c.requires.1 in search rules

pub returns : goal.returns
unfolding with_byte
returns c =
    let a = c.args in
    let n = as_counted c.args.count c.args.held.now c.requires.0 c.requires.1 in
    record {
      takes = rw (n, c.if-count-byte.false)
          (stored (receiver a.held.now a.count) a.byte a.count (sym n) (omega (arith, n, c.requires)));
    }
