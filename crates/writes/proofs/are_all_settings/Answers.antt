-- By cases on the form: of a block, which goes up by one, each lies there where the first and the last do. Assumes nothing.
use mathlib.Core.Path.{◌≡◌, refl}
use mathlib.Core.Bool.{Bool, true, false, ◌&&◌, ◌||◌}
use mathlib.Core.List.{List}
use Prim.Native.Nat.{ℕ, zero, suc, ◌+◌}
use native.Mathlib.Omega.{arith}
use borrow.Author.Tests.{eqb-true, leb-true, leb-false, le-leb, lt-leb, ne_eqb}
use lib.Dec.{eqb, leb}
use Rattle.writes.specs.declared.Form.{Form}
use Rattle.writes.specs.declared.Form.TheVariants as form
use Rattle.writes.specs.Writes.{pair_at, pairs_of, all_settings, between}
use Rattle.writes.proofs.are_all_settings.Goals as goal

-- so many registers from the first on lie there, and so does the next
next : (first n : ℕ) → ((eqb n 0 || (leb 300 first && leb (first + n) 400)) && between 300 399 (first + n))
    ≡ (leb 300 first && leb (first + suc n) 400)
next first n = go (leb 300 first) refl (leb (first + n) 399) refl (eqb n 0) refl
  where
    either : (z : Bool) → ((z || true) && true) ≡ true
    either true = refl
    either false = refl

    never : (x : Bool) → (x && false) ≡ false
    never true = refl
    never false = refl

    go : (l : Bool) → leb 300 first ≡ l → (m : Bool) → leb (first + n) 399 ≡ m → (z : Bool) → eqb n 0 ≡ z
        → ((z || (l && leb (first + n) 400)) && (leb 300 (first + n) && m)) ≡ (l && leb (first + suc n) 400)
    go true a true b z e =
        let p = leb-true 300 first a in
        let q = leb-true (first + n) 399 b in
        rw (le-leb (first + n) 400 (omega arith), le-leb 300 (first + n) (omega arith), le-leb (first + suc n) 400 (omega arith)) (either z)
    go true a false b z e =
        let p = leb-true 300 first a in
        let q = leb-false (first + n) 399 b in
        rw (le-leb 300 (first + n) (omega arith), lt-leb (first + suc n) 400 (omega arith)) (never (z || leb (first + n) 400))
    go false a m b true e =
        let p = leb-false 300 first a in
        let q = eqb-true n 0 e in
        rw (lt-leb 300 (first + n) (omega arith)) refl
    go false a m b false e = refl

-- those of a block whose i-th register is so many behind the first
block : (f : Form) (s : List ℕ) (first : ℕ) → ((i : ℕ) → (pair_at f s i).at ≡ first + i) → (n : ℕ)
    → all_settings (pairs_of f s n) ≡ (eqb n 0 || (leb 300 first && leb (first + n) 400))
unfolding pairs_of all_settings
block f s first at zero = refl
block f s first at (suc n) = rw (block f s first at n, at n, ne_eqb (suc n) 0 (λ e. omega arith)) (next first n)

pub returns-in-Modbus : goal.returns-in-Modbus
unfolding pair_at
returns-in-Modbus c =
    rw (c.in-Modbus.is, block form.Modbus _ _ (λ i. refl), ← c.high_first_16.ensures)
    c.is_among_settings.ensures

pub returns-in-Block : goal.returns-in-Block
unfolding pair_at
returns-in-Block c =
    rw (c.in-Block.is, block form.Block _ _ (λ i. refl), ← c.low_first_16.ensures)
    c.is_among_settings-in-Block.ensures

pub returns-in-List : goal.returns-in-List
returns-in-List c = rw c.in-List.is c.are_listed_settings.ensures
