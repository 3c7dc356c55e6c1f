-- Room counted down, and texts that are put in turn. Assumes nothing.
use mathlib.Core.Path.{◌≡◌, ap, subst, ◌∙◌}
use mathlib.Core.Bool.{true, false}
use mathlib.Core.List.{List}
use Prim.Native.Nat.{ℕ, zero, suc, ◌+◌, ◌-◌, ◌<◌, ◌≤◌}
use native.Mathlib.Nat.{zero-add}
use native.Mathlib.Numerals.{add-one}
use native.Mathlib.Omega.{arith}
use borrow.Author.Tests.{le-leb, lt-leb}
use lib.Dec.{leb}
use lib.ListN.{length, length-append}
use Rattle.text.specs.Digits.{Put, Wrote}
use Rattle.text.proofs.Writing.{join}
use Rattle.drawing.specs.Paths.{in_turn}

-- what is left says whether there is room
pub put_left : {l l' text : List ℕ} {at next room left : ℕ} → Wrote l at text next l' → left ≡ room - length text → room ≡ length l + 1 - at
    → 0 < left → Put l at text next l'
put_left {l} {text = text} {at} w e f h =
    let fits : leb (at + length text) (length l) ≡ true = le-leb (at + length text) (length l) (omega arith) in
    record { place = rw fits w.place; bytes = rw fits w.bytes }

pub put_nowhere : {l text : List ℕ} {at room left : ℕ} → left ≡ room - length text → room ≡ length l + 1 - at → left ≤ 0
    → Put l at text at l
put_nowhere {l} {text} {at} e f h =
    let fits : leb (at + length text) (length l) ≡ false = lt-leb (at + length text) (length l) (omega arith) in
    record { place = rw fits; bytes = rw fits }

-- ---- in turn

module _ (text : ℕ → List ℕ) where
  -- as many texts, and one more
  pub turn_long : (k : ℕ) → length (in_turn text (k + 1)) ≡ length (in_turn text k) + length (text k)
  turn_long k = ap (λ (n : ℕ). length (in_turn text n)) (add-one k) ∙ length-append (in_turn text k) (text k)

  pub turn_left : {left more : ℕ} (room k : ℕ) → left ≡ room - length (in_turn text k) → more ≡ length (text k)
      → left - more ≡ room - length (in_turn text (k + 1))
  turn_left room k e f = let long = turn_long k in omega arith

  pub turn_more : {l₀ l₁ l₂ : List ℕ} {at p₁ p₂ : ℕ} (k : ℕ) → Wrote l₀ at (in_turn text k) p₁ l₁ → Wrote l₁ p₁ (text k) p₂ l₂
      → Wrote l₀ at (in_turn text (k + 1)) p₂ l₂
  turn_more k v w = rw add-one (join v w)

  grows : (k more : ℕ) → length (in_turn text k) ≤ length (in_turn text (more + k))
  grows k zero = rw zero-add (omega arith)
  grows k (suc more) =
      let e : suc more + k ≡ suc (more + k) = omega arith in
      rw e (omega (arith, grows k more, length-append (in_turn text (more + k)) (text (more + k))))

  -- so many and one more have no more bytes than all
  pub turn_room : (n k : ℕ) → k < n → length (in_turn text k) + length (text k) ≤ length (in_turn text n)
  turn_room n k h =
      let e : n - suc k + suc k ≡ n = omega arith in
      let all = subst (λ (m : ℕ). length (in_turn text (suc k)) ≤ length (in_turn text m)) e (grows (suc k) (n - suc k)) in
      omega (arith, length-append (in_turn text k) (text k))

  -- all of them
  pub turn_all_left : {left : ℕ} (room n k : ℕ) → k ≤ n → n ≤ k → left ≡ room - length (in_turn text k)
      → left ≡ room - length (in_turn text n)
  turn_all_left room n k h i e = let same : k ≡ n = omega arith in e ∙ ap (λ (m : ℕ). room - length (in_turn text m)) same

  pub turn_all : {l₀ l₁ : List ℕ} {at p : ℕ} (n k : ℕ) → k ≤ n → n ≤ k → Wrote l₀ at (in_turn text k) p l₁ → Wrote l₀ at (in_turn text n) p l₁
  turn_all {l₀} {l₁} {at} {p} n k h i w =
      let same : k ≡ n = omega arith in
      subst (λ (m : ℕ). Wrote l₀ at (in_turn text m) p l₁) same w
