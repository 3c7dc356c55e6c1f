-- A loop that copies a list into the front of n zeros, for any n.
-- Assumes nothing.
use mathlib.Core.Path.{◌≡◌, refl, sym, ap, ap₂, ◌∙◌}
use mathlib.Core.Bool.{Bool, true, false}
use mathlib.Core.List.{List, ◌++◌, append-nil}
use Prim.Native.Nat.{ℕ, suc, ◌+◌, ◌-◌, ◌<◌, ◌≤◌, min}
use native.Mathlib.Nat.{sub-zero}
use native.Mathlib.Numerals.{add-one}
use native.Mathlib.Omega.{arith}
use lib.Dec.{leb}
use lib.ListN.{length, take, get_or, set, replicate}
use borrow.Author.Tests.{leb-true, leb-false}
use lib.Seq.{take-suc, set_at, length-take-le, append_snoc, take_all}

-- i elements of xs are copied, and zeros follow up to n
pub record Copied (n : ℕ) (xs : List ℕ) (i : ℕ) (l : List ℕ) : Type 0 where
  pub within : i ≤ min n (length xs)
  pub copied : l ≡ take i xs ++ replicate (n - i) 0

pub none_copied : {n : ℕ} {xs : List ℕ} → Copied n xs 0 (replicate n 0)
none_copied {n} {xs} = record { within = omega arith; copied = ap (λ (k : ℕ). replicate k 0) (sym (sub-zero n)) }

pub one_copied : {n : ℕ} {xs : List ℕ} {i : ℕ} {l : List ℕ} → Copied n xs i l → i < min n (length xs)
    → Copied n xs (i + 1) (set l i (get_or xs i 0))
one_copied {n} {xs} {i} {l} c h =
    let k : n - i ≡ suc (n - (i + 1)) = omega arith in
    let t : length (take i xs) ≡ i = length-take-le i xs (omega arith) in
    record {
      within = omega arith;
      copied =
          ap (λ (l : List ℕ). set l i (get_or xs i 0)) (c.copied ∙ ap (λ (m : ℕ). take i xs ++ replicate m 0) k)
          ∙ set_at (take i xs) 0 (replicate (n - (i + 1)) 0) (get_or xs i 0) i t
          ∙ sym (append_snoc (take i xs) (get_or xs i 0) (replicate (n - (i + 1)) 0))
          ∙ ap (λ (a : List ℕ). a ++ replicate (n - (i + 1)) 0)
          (sym (ap (λ (m : ℕ). take m xs) (add-one i) ∙ take-suc xs i 0 (omega arith)));
    }

pub all_copied : {n : ℕ} {xs : List ℕ} {i : ℕ} {l : List ℕ} → Copied n xs i l → min n (length xs) ≤ i
    → l ≡ take n xs ++ replicate (n - length xs) 0
all_copied {n} {xs} {i} {l} c h =
    let k : n - i ≡ n - length xs = omega (arith, c.within) in
    c.copied ∙ ap₂ (λ (a : List ℕ) (m : ℕ). a ++ replicate m 0) (same (leb n (length xs)) refl) k
  where
    same : (t : Bool) → leb n (length xs) ≡ t → take i xs ≡ take n xs
    same true e =
        let g : n ≤ length xs = leb-true n (length xs) e in
        let f : i ≡ n = omega (arith, c.within) in
        ap (λ (m : ℕ). take m xs) f
    same false e =
        let g : length xs < n = leb-false n (length xs) e in
        take_all i xs (omega (arith, c.within)) ∙ sym (take_all n xs (omega arith))

-- ---- a list that is as long as the zeros

pub one_in : {n : ℕ} {xs : List ℕ} {i v : ℕ} {l : List ℕ} → Copied n xs i l → length xs ≡ n → i < n → v ≡ get_or xs i 0
    → Copied n xs (i + 1) (set l i v)
one_in {n} {xs} {i} {v} {l} c m h q = rw q (one_copied c (omega arith))

pub all_in : {n : ℕ} {xs : List ℕ} {i : ℕ} {l : List ℕ} → Copied n xs i l → length xs ≡ n → n ≤ i → l ≡ xs
all_in {n} {xs} {i} {l} c m h =
    let z : n - length xs ≡ 0 = omega arith in
    all_copied c (omega arith) ∙ rw (z, take_all n xs (omega arith)) (append-nil xs)
