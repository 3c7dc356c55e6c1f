-- What taking in one element after the other makes of a window and of a wait, and what of a history is the latest.
-- Assumes nothing.
use mathlib.Core.Path.{◌≡◌, refl, sym, ap, ap₂, ◌∙◌}
use mathlib.Core.Bool.{Bool, true, false, cond, ◌||◌}
use mathlib.Core.List.{List, [], ◌∷◌, ◌++◌, reverse, append_assoc, append-nil, reverse-cons}
use Prim.Native.Nat.{ℕ, zero, suc, ◌+◌, ◌-◌, ◌≤◌, min}
use native.Mathlib.Omega.{arith, min_cases}
use native.Mathlib.Nat.{not-suc-le-zero}
use borrow.Author.Tests.{ltb-true, ltb-false, lt-ltb, le-ltb}
use lib.Dec.{ltb}
use lib.ListN.{length, take, drop, replicate, length-append, drop_of_length-le, replicate-append-replicate}
use lib.Seq.{drop-append-le, take_all}
use Rattle.laws.specs.History.{since, each, sum, any, newest, ago, latest, waits}
use Rattle.laws.specs.Fold.{shifted}
use Rattle.laws.specs.History.{pour}

-- what is poured in two parts
pub pour_append : {A S : Type 0} (f : S → A → S) (z : S) (xs ys : List A) → pour f z (xs ++ ys) ≡ pour f (pour f z ys) xs
pour_append f z [] ys = refl
pour_append f z (x ∷ xs) ys = ap (λ s. f s x) (pour_append f z xs ys)

-- what each of them gives, in two parts
pub each_append : {A B : Type 0} (f : A → List B) (xs ys : List A) → each f (xs ++ ys) ≡ each f xs ++ each f ys
each_append f [] ys = refl
each_append {A} {B} f (x ∷ xs) ys = ap (λ (l : List B). f x ++ l) (each_append f xs ys) ∙ sym (append_assoc (f x) (each f xs) (each f ys))

pub each_more : {A B : Type 0} (f : A → List B) (xs : List A) (x : A) → each f (xs ++ (x ∷ [])) ≡ each f xs ++ f x
each_more {A} {B} f xs x = each_append f xs (x ∷ []) ∙ ap (λ (l : List B). each f xs ++ l) (append-nil (f x))

-- ---- the latest n, shifted by one place

module _ {A : Type 0} where
  pub length_latest : (n : ℕ) (z : A) (xs : List A) → length (latest n z xs) ≡ n
  length_latest zero z xs = refl
  length_latest (suc n) z [] = let e = length_latest n z [] in simp length-append (omega arith)
  length_latest (suc n) z (x ∷ xs) = let e = length_latest n z xs in simp length-append (omega arith)

  moved : (n : ℕ) (z : A) (xs : List A) → drop 1 (latest (suc n) z xs) ≡ latest n z xs
  moved zero z [] = refl
  moved zero z (x ∷ xs) = refl
  moved (suc n) z [] =
      let e = length_latest (suc n) z [] in
      drop-append-le 1 (latest (suc n) z []) (z ∷ []) (omega arith) ∙ ap (λ (l : List A). l ++ (z ∷ [])) (moved n z [])
  moved (suc n) z (x ∷ xs) =
      let e = length_latest (suc n) z xs in
      drop-append-le 1 (latest (suc n) z xs) (x ∷ []) (omega arith) ∙ ap (λ (l : List A). l ++ (x ∷ [])) (moved n z xs)

  pub pushed : (n : ℕ) (z x : A) (xs : List A) → shifted (latest (suc n) z xs) x ≡ latest (suc n) z (x ∷ xs)
  unfolding shifted
  pushed n z x xs = ap (λ (l : List A). l ++ (x ∷ [])) (moved n z xs)

  -- the latest n of m places are the n newest, the oldest of them first
  pub latest_taken : (m n : ℕ) (z : A) (xs : List A) → n ≤ m → n ≤ length xs → drop (m - n) (latest m z xs) ≡ reverse (take n xs)
  latest_taken m zero z xs h k = let e = length_latest m z xs in drop_of_length-le (latest m z xs) {i = m - 0} (omega arith)
  latest_taken zero (suc n) z xs h k = absurd (not-suc-le-zero h)
  latest_taken (suc m) (suc n) z [] h k = absurd (not-suc-le-zero k)
  latest_taken (suc m) (suc n) z (x ∷ xs) h k =
      let e : suc m - suc n ≡ m - n = omega arith in
      ap (λ (i : ℕ). drop i (latest m z xs ++ (x ∷ []))) e
      ∙ drop-append-le (m - n) (latest m z xs) (x ∷ []) (rw (length_latest m z xs) (omega arith))
      ∙ ap (λ (l : List A). l ++ (x ∷ [])) (latest_taken m n z xs (omega arith) (omega arith))
      ∙ sym (reverse-cons x (take n xs))

  -- of no more than there are places, all of them, behind empty ones
  pub latest_few : (n : ℕ) (z : A) (xs : List A) → length xs ≤ n → latest n z xs ≡ replicate (n - length xs) z ++ reverse xs
  latest_few zero z [] h = refl
  latest_few zero z (x ∷ xs) h = absurd (not-suc-le-zero h)
  latest_few (suc n) z [] h =
      let e : n - 0 + 1 ≡ suc n - 0 = omega arith in
      ap (λ (l : List A). l ++ (z ∷ [])) (latest_few n z [] (omega arith) ∙ append-nil (replicate (n - 0) z))
      ∙ replicate-append-replicate (n - 0) 1 z
      ∙ ap (λ (k : ℕ). replicate k z) e
      ∙ sym (append-nil (replicate (suc n - 0) z))
  latest_few (suc n) z (x ∷ xs) h =
      let e : n - length xs ≡ suc n - suc (length xs) = omega arith in
      ap (λ (l : List A). l ++ (x ∷ [])) (latest_few n z xs (omega arith))
      ∙ append_assoc (replicate (n - length xs) z) (reverse xs) (x ∷ [])
      ∙ ap₂ (λ (k : ℕ) (l : List A). replicate k z ++ l) e (sym (reverse-cons x xs))

  pub take_min : (n : ℕ) (xs : List A) → take (min n (length xs)) xs ≡ take n xs
  take_min n xs =
      min_cases n (length xs) _ (λ h e. ap (λ k. take k xs) e) (λ h e. ap (λ k. take k xs) e ∙ take_all (length xs) xs (omega arith)
      ∙ sym (take_all n xs h))

-- ---- one of more

module _ {A : Type 0} (p : A → Bool) where
  pub any_of_more : (m n : ℕ) (xs : List A) → m ≤ n → any p (take m xs) ≡ true → any p (take n xs) ≡ true
  any_of_more zero n xs h e = absurd (let z : ◌≡◌ {A = ℕ} 0 1 = cc in omega arith)
  any_of_more (suc m) zero xs h e = absurd (not-suc-le-zero h)
  any_of_more (suc m) (suc n) [] h e = e
  any_of_more (suc m) (suc n) (x ∷ xs) h e = go (p x) e (any_of_more m n xs (omega arith))
    where
      go : (b : Bool) → cond b true (any p (take m xs)) ≡ true → (any p (take m xs) ≡ true → any p (take n xs) ≡ true)
          → cond b true (any p (take n xs)) ≡ true
      go true e i = refl
      go false e i = i e

-- ---- since either of two marks

-- what is noted since the last of either kind is the newer part of what is noted since the last of one kind
module _ {C B : Type 0} (p q : C → Bool) (what : List C → List B) where
  pub sooner : (h : List C) → (older : List B) × (each what (since p h) ≡ each what (since (λ c. p c || q c) h) ++ older)
  sooner [] = ([], refl)
  sooner (c ∷ h) = go (p c) (q c) (sooner h)
    where
      go : (a b : Bool) → (older : List B) × (each what (since p h) ≡ each what (since (λ c. p c || q c) h) ++ older)
          → (older : List B)
          × (each what (cond a [] ((c ∷ h) ∷ since p h)) ≡ each what (cond (a || b) [] ((c ∷ h) ∷ since (λ c. p c || q c) h)) ++ older)
      go true b i = ([], refl)
      go false true i = (what (c ∷ h) ++ each what (since p h), refl)
      go false false i = (
        i.0,
        ap (λ (l : List B). what (c ∷ h) ++ l) i.1
            ∙ sym (append_assoc (what (c ∷ h)) (each what (since (λ c. p c || q c) h)) i.0),
      )

-- ---- waits

module _ {A : Type 0} (holds : A → Bool) (wait : A → ℕ) where
  less : (ts : List A) (k : ℕ) → sum (λ x. wait x - k) (newest holds ts) - 1 ≡ sum (λ x. wait x - suc k) (newest holds ts)
  less [] k = refl
  less (t ∷ ts) k = go (holds t) (less ts k)
    where
      go : (a : Bool) → sum (λ x. wait x - k) (newest holds ts) - 1 ≡ sum (λ x. wait x - suc k) (newest holds ts)
          → sum (λ x. wait x - k) (cond a (t ∷ []) (newest holds ts)) - 1 ≡ sum (λ x. wait x - suc k) (cond a (t ∷ []) (newest holds ts))
      go true e = omega arith
      go false e = e

  pub timer : (ts : List A) → pour (λ n t. cond (holds t) (wait t) (n - 1)) 0 ts ≡ sum (λ t. wait t - ago holds ts) (newest holds ts)
  timer [] = refl
  timer (t ∷ ts) = go (holds t) (timer ts)
    where
      go : (a : Bool) → {n : ℕ} → n ≡ sum (λ x. wait x - ago holds ts) (newest holds ts)
          → cond a (wait t) (n - 1) ≡ sum (λ x. wait x - cond a 0 (suc (ago holds ts))) (cond a (t ∷ []) (newest holds ts))
      go true e = omega arith
      go false e = ap (λ k. k - 1) e ∙ less ts (ago holds ts)

  runs : (ts : List A) (k : ℕ) → ltb 0 (sum (λ t. wait t - k) (newest holds ts)) ≡ any (λ t. ltb k (wait t)) (newest holds ts)
  runs [] k = refl
  runs (t ∷ ts) k = go (holds t) (runs ts k)
    where
      one_left : (b : Bool) → ltb k (wait t) ≡ b → ltb 0 (wait t - k + 0) ≡ cond b true false
      one_left true e = lt-ltb 0 (wait t - k + 0) (omega (arith, ltb-true))
      one_left false e = le-ltb 0 (wait t - k + 0) (omega (arith, ltb-false))

      go : (a : Bool) → ltb 0 (sum (λ t. wait t - k) (newest holds ts)) ≡ any (λ t. ltb k (wait t)) (newest holds ts)
          → ltb 0 (sum (λ t. wait t - k) (cond a (t ∷ []) (newest holds ts)))
          ≡ any (λ t. ltb k (wait t)) (cond a (t ∷ []) (newest holds ts))
      go true e = one_left (ltb k (wait t)) refl
      go false e = e

  pub waited : (ts : List A) → ltb 0 (pour (λ n t. cond (holds t) (wait t) (n - 1)) 0 ts) ≡ waits holds wait ts
  waited ts = ap (ltb 0) (timer ts) ∙ runs ts (ago holds ts)
