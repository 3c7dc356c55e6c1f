-- A loop that holds one byte after the other. A piece for which there is room stands behind what was held. Assumes nothing.
use mathlib.Core.Path.{◌≡◌, sym, ap, ◌∙◌}
use mathlib.Core.List.{List, [], ◌∷◌, ◌++◌}
use Prim.Native.Nat.{ℕ, suc, ◌+◌, ◌≤◌}
use native.Mathlib.Nat.{add-zero}
use native.Mathlib.Numerals.{add-one}
use native.Mathlib.Omega.{arith}
use borrow.Author.Tests.{lt-ltb}
use lib.ListN.{length, take, drop, set, length-set, length-append}
use lib.Seq.{sets, sets-eq, take_at, length-take-le}
use Rattle.text.specs.Lines.{Held, held_of, held_all}

-- i bytes of a piece are held
pub record Holding (h : Held) (piece : List ℕ) (i count : ℕ) (bytes : List ℕ) : Type 0 where
  pub rest : held_all (held_of count bytes) (drop i piece) ≡ held_all h piece

-- ---- a piece for which there is room

carry : (piece line : List ℕ) (held : ℕ) → held + length piece ≤ length line → held_all (held_of held line) piece
    ≡ held_of (held + length piece) (sets line held piece)
carry [] line held h = ap (λ (n : ℕ). held_of n line) (sym (add-zero held))
carry (b ∷ bs) line held h =
    let t = lt-ltb held (length line) (omega arith) in
    let k : suc held + length bs ≤ length (set line held b) = rw length-set (omega arith) in
    let e : suc held + length bs ≡ held + suc (length bs) = omega arith in
    rw (t, add-one) (carry bs (set line held b) (suc held) k ∙ ap (λ (n : ℕ). held_of n (sets (set line held b) (suc held) bs)) e)

-- what is held is what was held, and then the piece
pub carried : (piece line : List ℕ) (held : ℕ) → held + length piece ≤ length line
    → take (held_all (held_of held line) piece).count (held_all (held_of held line) piece).bytes ≡ take held line ++ piece
carried piece line held h =
    let t : length (take held line) ≡ held = length-take-le held line (omega arith) in
    rw (carry piece line held h, sets-eq piece line held h) (take_at (take held line ++ piece) (drop (held + length piece) line)
    (held + length piece) (length-append (take held line) piece ∙ omega arith))
