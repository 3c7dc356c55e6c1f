-- Zeros that are left out from the end, one by one or several at a time. Assumes nothing.
use mathlib.Core.Path.{◌≡◌, refl, sym, ap, ◌∙◌}
use mathlib.Core.Bool.{Bool, false, not, and-false, ◌||◌}
use mathlib.Core.List.{List, [], ◌∷◌, ◌++◌, append_assoc}
use Prim.Native.Nat.{ℕ, suc, ◌+◌, ◌-◌, ◌<◌}
use native.Mathlib.Numerals.{add-one}
use native.Mathlib.Omega.{arith}
use borrow.Author.Tests.{ne_eqb, eqb-true, not-false}
use lib.Dec.{eqb}
use lib.ListN.{length, take, get_or}
use lib.Seq.{take-suc, take-length, length-take-le}
use Rattle.text.specs.Digits.{used}
use Rattle.text.proofs.Places.{none_of}

used_zero : (xs : List ℕ) → used (xs ++ (0 ∷ [])) ≡ used xs
used_zero [] = refl
used_zero (x ∷ xs) = rw (used_zero xs)

used_last : (xs : List ℕ) (x : ℕ) → eqb x 0 ≡ false → used (xs ++ (x ∷ [])) ≡ suc (length xs)
used_last [] x e = rw e
used_last (y ∷ xs) x e =
    let f : eqb (suc (length xs)) 0 ≡ false = ne_eqb (suc (length xs)) 0 (λ z. omega arith) in
    rw (used_last xs x e, f, and-false)

-- the last byte of a text
parted : (xs : List ℕ) → 0 < length xs → xs ≡ take (length xs - 1) xs ++ (get_or xs (length xs - 1) 0 ∷ [])
parted xs h =
    let n : length xs ≡ suc (length xs - 1) = omega arith in
    sym (take-length xs) ∙ ap (λ (m : ℕ). take m xs) n ∙ take-suc xs (length xs - 1) 0 (omega arith)

pub last_zero : (xs : List ℕ) → 0 < length xs → get_or xs (length xs - 1) 0 ≡ 0 → used (take (length xs - 1) xs) ≡ used xs
last_zero xs h e =
    sym (used_zero (take (length xs - 1) xs)) ∙ ap (λ (x : ℕ). used (take (length xs - 1) xs ++ (x ∷ []))) (sym e) ∙ ap used (sym (parted xs h))

pub last_used : (xs : List ℕ) → 0 < length xs → (get_or xs (length xs - 1) 0 ≡ 0 → ⊥) → length xs ≡ used xs
last_used xs h e =
    let n : length (take (length xs - 1) xs) ≡ length xs - 1 = length-take-le (length xs - 1) xs (omega arith) in
    let u = ap used (parted xs h) ∙ used_last (take (length xs - 1) xs) (get_or xs (length xs - 1) 0) (ne_eqb (get_or xs (length xs - 1) 0) 0 e) in
    omega arith

-- ---- several looked at together

pub one_more_zero : (xs : List ℕ) (i : ℕ) {found : Bool} → (found ≡ false → (front : List ℕ) → used (front ++ take i xs) ≡ used front)
    → i < length xs
    → (found || not (eqb (get_or xs i 0) 0)) ≡ false → (front : List ℕ) → used (front ++ take (i + 1) xs) ≡ used front
one_more_zero xs i {found} e h f front =
    let n = none_of found (not (eqb (get_or xs i 0) 0)) f in
    let z = eqb-true (get_or xs i 0) 0 (not-false (eqb (get_or xs i 0) 0) n.1) in
    rw (add-one, take-suc xs i 0 h, z, ← append_assoc front (take i xs) (0 ∷ [])) (used_zero (front ++ take i xs) ∙ e n.0 front)
