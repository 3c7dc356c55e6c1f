-- A number's digits are those of its tenth part and then its last: so they are counted, written from the last on, and read back.
-- Assumes nothing.
use mathlib.Core.Path.{◌≡◌, refl, sym, ap, ◌∙◌}
use mathlib.Core.Bool.{Bool, true, false, cond}
use mathlib.Core.List.{List, [], ◌∷◌, ◌++◌}
use Prim.Native.Nat.{ℕ, zero, suc, ◌+◌, ◌-◌, ◌/◌, ◌^◌, ◌<◌, ◌≤◌}
use native.Mathlib.Nat.{add-zero}
use native.Mathlib.Omega.{arith}
use borrow.Author.Tests.{ltb-true, ltb-false, lt-ltb, le-ltb}
use lib.Dec.{ltb}
use lib.ListN.{length, set, length-append}
use lib.Seq.{sets, set_comm}
use Rattle.text.specs.Digits.{digit, digits_within, decimal_text, Wrote, Put}

-- what holds of one digit, and of a number if it holds of its tenth part, holds of every number
module _ (P : ℕ → Type 0) (one : (n : ℕ) → n < 10 → P n) (more : (n : ℕ) → 10 ≤ n → P (n / 10) → P n) where
  within : (k n : ℕ) → n ≤ k → P n
  within zero n h = one n (omega arith)
  within (suc k) n h = go (ltb n 10) refl (within k (n / 10))
    where
      go : (t : Bool) → ltb n 10 ≡ t → (n / 10 ≤ k → P (n / 10)) → P n
      go true e i = one n (ltb-true n 10 e)
      go false e i = let l = ltb-false n 10 e in more n l (i (omega arith))

  pub by_digits : (n : ℕ) → P n
  by_digits n = within n n (omega arith)

-- ---- the digits

same_within : (k j n : ℕ) → n ≤ k → n ≤ j → digits_within k n ≡ digits_within j n
unfolding digits_within
same_within zero zero n h i = refl
same_within zero (suc j) n h i = rw (lt-ltb n 10 (omega arith))
same_within (suc k) zero n h i = rw (lt-ltb n 10 (omega arith))
same_within (suc k) (suc j) n h i = go (ltb n 10) refl (same_within k j (n / 10))
  where
    go : (t : Bool) → ltb n 10 ≡ t → (n / 10 ≤ k → n / 10 ≤ j → digits_within k (n / 10) ≡ digits_within j (n / 10))
        → cond t (λ (tenth : ℕ). []) (digits_within k) (n / 10) ++ (digit n ∷ [])
        ≡ cond t (λ (tenth : ℕ). []) (digits_within j) (n / 10) ++ (digit n ∷ [])
    go true e same = refl
    go false e same =
        let l = ltb-false n 10 e in
        ap (λ (digits : List ℕ). digits ++ (digit n ∷ [])) (same (omega arith) (omega arith))

pub one_digit : (n : ℕ) → n < 10 → decimal_text n ≡ digit n ∷ []
unfolding decimal_text digits_within
one_digit zero h = refl
one_digit (suc n) h = rw (lt-ltb (suc n) 10 h)

pub more_digits : (n : ℕ) → 10 ≤ n → decimal_text n ≡ decimal_text (n / 10) ++ (digit n ∷ [])
unfolding decimal_text digits_within
more_digits zero h = absurd (omega arith)
more_digits (suc n) h =
    rw (le-ltb (suc n) 10 h)
    (ap (λ (digits : List ℕ). digits ++ (digit (suc n) ∷ [])) (same_within n (suc n / 10) (suc n / 10) (omega arith) (omega arith)))

-- ---- how many there are

pub one_long : (n : ℕ) → n < 10 → length (decimal_text n) ≡ 1
one_long n h = ap length (one_digit n h)

pub more_long : (n : ℕ) → 10 ≤ n → length (decimal_text n) ≡ length (decimal_text (n / 10)) + 1
more_long n h = ap length (more_digits n h) ∙ length-append (decimal_text (n / 10)) (digit n ∷ [])

pub some_digit : (n : ℕ) → 1 ≤ length (decimal_text n)
some_digit =
    by_digits (λ (n : ℕ). 1 ≤ length (decimal_text n)) (λ n h. omega (arith, one_long n h)) (λ n h i. omega (arith, more_long n h))

no_more : (n k : ℕ) → n < 10 ^ suc k → length (decimal_text n) ≤ suc k
no_more =
    by_digits (λ (n : ℕ). (k : ℕ) → n < 10 ^ suc k → length (decimal_text n) ≤ suc k) (λ n h k l. omega (arith, one_long n h)) more
  where
    more : (n : ℕ) → 10 ≤ n → ((k : ℕ) → n / 10 < 10 ^ suc k → length (decimal_text (n / 10)) ≤ suc k)
        → (k : ℕ) → n < 10 ^ suc k → length (decimal_text n) ≤ suc k
    more n h i zero l = absurd (omega arith)
    more n h i (suc k) l = omega (arith, more_long n h, i k (omega arith))

-- 64 bits take twenty digits at most
pub twenty : (n : ℕ) → n < 2 ^ 64 → length (decimal_text n) ≤ 20
twenty n h = no_more n 19 (omega arith)

-- ---- written from the last on

-- a byte behind a text, written before it
behind : (xs l : List ℕ) (at b : ℕ) → sets (set l (at + length xs) b) at xs ≡ sets l at (xs ++ (b ∷ []))
behind [] l at b = ap (λ (p : ℕ). set l p b) (add-zero at)
behind (x ∷ xs) l at b =
    let e : at + suc (length xs) ≡ suc at + length xs = omega arith in
    ap (λ (m : List ℕ). sets m (suc at) xs) (set_comm l (at + suc (length xs)) at b x (λ (z : at + suc (length xs) ≡ at). omega arith))
    ∙ ap (λ (p : ℕ). sets (set (set l at x) p b) (suc at) xs) e
    ∙ behind xs (set l at x) (suc at) b

-- the digits of what is left of a number end at a place, and once they are written too, all are
pub record Writing (before : List ℕ) (at number rest place : ℕ) (now : List ℕ) : Type 0 where
  pub all : sets now at (decimal_text rest) ≡ sets before at (decimal_text number)
  pub ends : place + 1 ≡ at + length (decimal_text rest)
  pub within : length (decimal_text rest) ≤ length (decimal_text number)

pub begun : {l : List ℕ} {at n place : ℕ} → place + 1 ≡ at + length (decimal_text n) → Writing l at n n place l
begun e = record { all = refl; ends = e; within = omega arith }

module _ {before now : List ℕ} {at n rest place d : ℕ} (w : Writing before at n rest place now) (e : d ≡ digit rest) where
  pub one_more : 10 ≤ rest → Writing before at n (rest / 10) (place - 1) (set now place d)
  one_more h =
      let long = more_long rest h in
      let some = some_digit (rest / 10) in
      let p : place ≡ at + length (decimal_text (rest / 10)) = omega (arith, w.ends) in
      record {
        all = rw (p, e) (behind (decimal_text (rest / 10)) now at (digit rest) ∙ ap (sets now at) (sym (more_digits rest h)) ∙ w.all);
        ends = omega arith;
        within = omega (arith, w.within);
      }

  pub first_digit : rest < 10 → {next : ℕ} → next ≡ at + length (decimal_text n) → Wrote before at (decimal_text n) next (set now at d)
  first_digit h p = record { place = p; bytes = ap (set now at) e ∙ ap (sets now at) (sym (one_digit rest h)) ∙ w.all }

pub one_digit_put : {l l' : List ℕ} {at next d : ℕ} (n : ℕ) → Put l at (d ∷ []) next l' → d ≡ digit n → n < 10
    → Put l at (decimal_text n) next l'
one_digit_put n p e h = rw (one_digit n h, ← e) p
