-- What is written is read back: a byte from its two hex digits, a number from its decimal ones. Assumes nothing.
use mathlib.Core.Path.{◌≡◌, refl, ap, ◌∙◌}
use mathlib.Core.Bool.{Bool, true, false, cond}
use mathlib.Core.List.{List, [], ◌∷◌, ◌++◌}
use Rattle.std.specs.Prelude.{Some}
use Prim.Native.Nat.{ℕ, ◌+◌, ◌-◌, ◌*◌, ◌/◌, ◌%◌, ◌<◌, ◌≤◌}
use native.Mathlib.Omega.{arith}
use borrow.Author.Tests.{ltb-true, ltb-false, le-leb, lt-leb}
use lib.Dec.{ltb}
use lib.ListN.{length}
use Rattle.laws.specs.Fold.{gather}
use Rattle.text.specs.Numbers.{is_digit, all_digits, is_number, decimal_of, hex_of, byte_of, number_of}
use Rattle.text.specs.Digits.{digit, decimal_text, hex_digit, hex_text}
use Rattle.text.proofs.Decimal.{by_digits, one_digit, more_digits, some_digit}

hex_back : (n : ℕ) → n < 16 → hex_of (hex_digit n) ≡ Some n
hex_back n h = go (ltb n 10) refl
  where
    go : (t : Bool) → ltb n 10 ≡ t → hex_of (cond t (48 + n) (55 + n)) ≡ Some n
    go true e =
        let k = ltb-true n 10 e in
        let d : 48 + n - 48 ≡ n = omega arith in
        rw (le-leb 48 (48 + n) (omega arith), le-leb (48 + n) 57 (omega arith)) (ap Some d)
    go false e =
        let k = ltb-false n 10 e in
        let d : 55 + n - 65 + 10 ≡ n = omega arith in
        rw (
          le-leb 48 (55 + n) (omega arith),
          lt-leb (55 + n) 57 (omega arith),
          le-leb 65 (55 + n) (omega arith),
          le-leb (55 + n) 70 (omega arith),
        )
        (ap Some d)

-- every byte
pub byte_back : (b : ℕ) → b < 256 → byte_of (hex_text b) ≡ Some b
byte_back b h =
    let p : b / 16 < 16 = omega arith in
    let q : b % 16 < 16 = omega arith in
    let e : 16 * (b / 16) + b % 16 ≡ b = omega arith in
    rw (hex_back (b / 16) p, hex_back (b % 16) q) (ap Some e)

-- ---- decimal

is_digit_lem : (n : ℕ) → is_digit (digit n) ≡ true
is_digit_lem n = rw (le-leb 48 (48 + n % 10) (omega arith), le-leb (48 + n % 10) 57 (omega arith))

-- one digit more
digits_more : (xs : List ℕ) (n : ℕ) → all_digits (xs ++ (digit n ∷ [])) ≡ all_digits xs
digits_more [] n = rw (is_digit_lem n)
digits_more (x ∷ xs) n = ap (λ (t : Bool). cond (is_digit x) t false) (digits_more xs n)

gather_more : (f : ℕ → ℕ → ℕ) (a : ℕ) (xs : List ℕ) (b : ℕ) → gather f a (xs ++ (b ∷ [])) ≡ f (gather f a xs) b
gather_more f a [] b = refl
gather_more f a (x ∷ xs) b = gather_more f (f a x) xs b

all_digits_lem : (n : ℕ) → all_digits (decimal_text n) ≡ true
all_digits_lem =
    by_digits (λ (n : ℕ). all_digits (decimal_text n) ≡ true) (λ n h. rw (one_digit n h, is_digit_lem n))
    (λ n h i. ap all_digits (more_digits n h) ∙ digits_more (decimal_text (n / 10)) n ∙ i)

same_number : (n : ℕ) → decimal_of (decimal_text n) ≡ n
same_number =
    by_digits (λ (n : ℕ). decimal_of (decimal_text n) ≡ n) (λ n h. ap decimal_of (one_digit n h) ∙ omega arith)
    (λ n h i. ap decimal_of (more_digits n h) ∙ gather_more (λ m b. 10 * m + (b - 48)) 0 (decimal_text (n / 10)) (digit n) ∙ omega arith)

is_number_lem : (xs : List ℕ) → 1 ≤ length xs → is_number xs ≡ all_digits xs
is_number_lem [] h = absurd (omega arith)
is_number_lem (x ∷ xs) h = refl

-- every number
pub number_back : (n most : ℕ) → n ≤ most → number_of most (decimal_text n) ≡ Some n
number_back n most h =
    rw (is_number_lem (decimal_text n) (some_digit n), all_digits_lem n, same_number n, le-leb n most h)
