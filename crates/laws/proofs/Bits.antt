-- A loop that packs one bit an element, from the last element down: n elements make a number below 2 ^ n.
-- Assumes nothing.
use mathlib.Core.Path.{◌≡◌, ◌∙◌}
use mathlib.Core.Bool.{Bool, true, false}
use mathlib.Core.List.{List, [], ◌∷◌}
use Prim.Native.Nat.{ℕ, suc, zero, ◌+◌, ◌-◌, ◌^◌, ◌<◌, ◌≤◌, min}
use native.Mathlib.Omega.{arith}
use native.Mathlib.Nat.{not-suc-le-zero, le_of_suc-le-suc}
use lib.ListN.{length, drop, get_or, drop_of_length-le, length-take, length-drop, take}
use lib.Pow.{pow_pos}
use lib.Seq.{drop-cons, get_or-take}
use Rattle.laws.specs.Fold.{packed, bit_of}

-- the first n elements are taken from the last down to i, and b has a bit for each
pub record Packed (f : ℕ → Bool) (b n : ℕ) (xs : List ℕ) (i : ℕ) : Type 0 where
  pub within : i ≤ min n (length xs)
  pub so_far : b ≡ packed f (drop i (take n xs))

pub none_packed : {f : ℕ → Bool} {n : ℕ} {xs : List ℕ} {i : ℕ} → i ≡ min n (length xs) → Packed f 0 n xs i
unfolding packed
none_packed {f} {n} {xs} {i} e =
    let h : length (take n xs) ≤ i = rw length-take (omega arith) in
    record { within = omega arith; so_far = rw drop_of_length-le }

pub one_down : {f : ℕ → Bool} {b b' n : ℕ} {xs : List ℕ} {i : ℕ} → Packed f b n xs i → 0 < i → b' ≡ b + b + bit_of (f (get_or xs (i - 1) 0))
    → Packed f b' n xs (i - 1)
unfolding packed
one_down {f} {b} {b'} {n} {xs} {i} g h q =
    let e : suc (i - 1) ≡ i = omega arith in
    let l : i - 1 < length (take n xs) = rw length-take (omega (arith, g.within)) in
    let at : get_or (take n xs) (i - 1) 0 ≡ get_or xs (i - 1) 0 = get_or-take n xs (i - 1) 0 (omega (arith, g.within)) in
    let d : drop (i - 1) (take n xs) ≡ get_or xs (i - 1) 0 ∷ drop i (take n xs) = drop-cons (take n xs) (i - 1) 0 l ∙ cc (at, e) in
    record { within = omega (arith, g.within); so_far = rw d (omega (arith, q, g.so_far)) }

pub bit_le : (b : Bool) → bit_of b ≤ 1
bit_le true = omega arith
bit_le false = omega arith

pub packed_lt : (f : ℕ → Bool) (xs : List ℕ) (k : ℕ) → length xs ≤ k → packed f xs < 2 ^ k
unfolding packed
packed_lt f [] k h = pow_pos k
packed_lt f (x ∷ xs) zero h = absurd (not-suc-le-zero h)
packed_lt f (x ∷ xs) (suc k) h = omega (arith, packed_lt f xs k (le_of_suc-le-suc h), bit_le (f x))

-- with one bit still to come there is room for it
pub room : {f : ℕ → Bool} {b : ℕ} (k : ℕ) {xs : List ℕ} {i : ℕ} → Packed f b (suc k) xs i → 0 < i → b < 2 ^ k
room {f} {b} k {xs} {i} g h = rw g.so_far (packed_lt f (drop i (take (suc k) xs)) k (simp (length-drop, length-take) (omega arith)))

pub all_packed : {f : ℕ → Bool} {b n : ℕ} {xs : List ℕ} {i : ℕ} → Packed f b n xs i → i ≤ 0 → b ≡ packed f (take n xs)
all_packed {i = zero} g h = g.so_far
all_packed {i = suc i} g h = absurd (not-suc-le-zero h)
