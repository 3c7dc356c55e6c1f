-- The bits of each register are told from unsigned numbers: a current from its two sides of zero, the half of a sum from bits
-- that are raised by half the range, and the slice place by place.
-- Assumes nothing.
use mathlib.Core.Path.{◌≡◌, refl, sym, ap, ◌∙◌}
use mathlib.Core.Bool.{Bool, true, false, cond}
use mathlib.Core.List.{List, [], ◌∷◌, ◌++◌}
use Prim.Native.Nat.{ℕ, zero, suc, ◌+◌, ◌-◌, ◌/◌, ◌%◌, ◌<◌, ◌≤◌, min}
use native.Mathlib.Nat.{zero-add, mul-add-div, not-suc-le-zero}
use native.Mathlib.Numerals.{add-one}
use native.Mathlib.Omega.{arith}
use lib.Dec.{ltb}
use lib.IntN.{ℤ, pos, negsuc, neg_ℤ, sub_ℕ, ◌+ℤ◌}
use lib.ListN.{length, take, get_or, set, length-append, length-set}
use lib.Seq.{take-suc-set, take_all, take-append_seam, get_or-take, get_or_at}
use lib.Signed.{mag}
use borrow.Author.Tests.{ltb-true, ltb-false}
use Rattle.signed.specs.Signed.{lift, bits_of, above, below}
use Rattle.readings.specs.Readings.{connected}
use Rattle.cabinet.specs.declared.Measured.{Measured}
use Rattle.cabinet.specs.Cabinet.{held_to16, amps_of, half, of_connected, register_at, filled_of}

-- a current below zero: the tenth of its size, with the sign put back
below_zero : (k : ℕ) → (65536 - min k 32768) % 65536 ≡ bits_of (held_to16 (neg_ℤ (pos k)))
unfolding bits_of
below_zero zero = refl
below_zero (suc k) = omega arith

pub amps_by_sides : (z : ℤ) → (min (above z / 10) 32767 + (65536 - min (below z / 10) 32768)) % 65536 ≡ bits_of (amps_of z)
unfolding bits_of
amps_by_sides (pos n) = omega arith
amps_by_sides (negsuc n) = ap (λ k. k % 65536) (zero-add (65536 - min (suc n / 10) 32768)) ∙ below_zero (suc n / 10)

-- a difference of two numbers that are at most half the range, raised by the whole range; and its size
module _ (a b : ℕ) (f : a ≤ 32768) (g : b ≤ 32768) where
  difference_raised : lift 65536 (sub_ℕ a b) ≡ 65536 + a - b
  difference_raised = go (ltb a b) refl
    where
      go : (t : Bool) → ltb a b ≡ t → lift 65536 (sub_ℕ a b) ≡ 65536 + a - b
      go true e = let h : a < b = ltb-true a b e in rw e (omega arith)
      go false e = let h : b ≤ a = ltb-false a b e in rw e (omega arith)

  difference_size : mag (sub_ℕ a b) < 65536
  difference_size = go (ltb a b) refl
    where
      go : (t : Bool) → ltb a b ≡ t → mag (sub_ℕ a b) < 65536
      go true e = rw e (omega arith)
      go false e = rw e (omega arith)

-- two numbers whose bits are raised by half the range add up to their sum, raised by the whole range
sum_raised : (a b : ℤ) → mag a < 32768 → mag b < 32768
    → ((bits_of a + 32768) % 65536 + (bits_of b + 32768) % 65536 ≡ lift 65536 (a +ℤ b)) × (mag (a +ℤ b) < 65536)
unfolding bits_of
sum_raised (pos a) (pos b) f g = (omega arith, omega arith)
sum_raised (negsuc a) (negsuc b) f g = (omega arith, omega arith)
sum_raised (pos a) (negsuc b) f g =
    let d : lift 65536 (sub_ℕ a (suc b)) ≡ 65536 + a - suc b = difference_raised a (suc b) (omega arith) (omega arith) in
    (omega arith, difference_size a (suc b) (omega arith) (omega arith))
sum_raised (negsuc a) (pos b) f g =
    let d : lift 65536 (sub_ℕ b (suc a)) ≡ 65536 + b - suc a = difference_raised b (suc a) (omega arith) (omega arith) in
    (omega arith, difference_size b (suc a) (omega arith) (omega arith))

-- the half of a number that is raised by the whole range is its half, rounded toward minus infinity and raised by half the range
half_raised : (z : ℤ) → mag z < 65536 → (lift 65536 z / 2 + 32768) % 65536 ≡ bits_of (half z)
unfolding bits_of
half_raised (pos k) f = omega (arith, mul-add-div {m = 2} (omega arith) 32768 k)
half_raised (negsuc k) f = omega arith

pub half_by_bits : (a b : ℤ) → mag a < 32768 → mag b < 32768
    → (((bits_of a + 32768) % 65536 + (bits_of b + 32768) % 65536) / 2 + 32768) % 65536 ≡ bits_of (half (a +ℤ b))
half_by_bits a b f g = let s = sum_raised a b f g in rw s.0 (half_raised (a +ℤ b) s.1)

-- the bits of what the connected externals give
pub bits_of_connected : (a b both : ℤ)
    → cond (connected a) (cond (connected b) (bits_of both) (bits_of a)) (cond (connected b) (bits_of b) 0) ≡ bits_of (of_connected a b both)
unfolding bits_of
bits_of_connected a b both = go (connected a) (connected b)
  where
    go : (s t : Bool) → cond s (cond t (bits_of both) (bits_of a)) (cond t (bits_of b) 0) ≡ bits_of (cond s (cond t both a) (cond t b (pos 0)))
    go true true = refl
    go true false = refl
    go false true = refl
    go false false = refl

-- i places of the slice are filled
pub record FilledTo (m : Measured) (l₀ : List ℕ) (i : ℕ) (l : List ℕ) : Type 0 where
  pub same : length l ≡ length l₀
  pub filled_to : take i l ≡ filled_of m i

pub none_filled : {m : Measured} {l : List ℕ} → FilledTo m l 0 l
unfolding filled_of
none_filled {m} {l} = record { same = refl; filled_to = refl }

pub one_filled : {m : Measured} {l₀ l : List ℕ} {i word : ℕ} → FilledTo m l₀ i l → i < length l₀ → word ≡ register_at m i
    → FilledTo m l₀ (i + 1) (set l i word)
unfolding filled_of
one_filled {m} {l₀} {l} {i} {word} e h w =
    let k : length l ≡ length l₀ = e.same in
    record {
      same = length-set l i word ∙ k;
      filled_to = rw add-one (take-suc-set l i word (omega arith) ∙ rw (e.filled_to, w));
    }

pub all_filled : {m : Measured} {before after : List ℕ} {i n : ℕ} → FilledTo m before i after → i ≡ n → length before ≡ n
    → after ≡ filled_of m n
all_filled {m} {before} {after} {i} {n} e h long =
    let k : length after ≡ length before = e.same in
    sym (take_all i after (omega arith)) ∙ e.filled_to ∙ ap (filled_of m) h

-- what the filled slice has at a place is the register of that place
pub length_filled : (m : Measured) (n : ℕ) → length (filled_of m n) ≡ n
unfolding filled_of
length_filled m zero = refl
length_filled m (suc n) =
    length-append (filled_of m n) (register_at m n ∷ []) ∙ ap (λ k. k + 1) (length_filled m n) ∙ add-one n

pub each_place : (m : Measured) (n i : ℕ) → i < n → get_or (filled_of m n) i 0 ≡ register_at m i
unfolding filled_of
each_place m zero i h = absurd (not-suc-le-zero h)
each_place m (suc n) i h = go (ltb i n) refl (each_place m n i)
  where
    l : length (filled_of m n) ≡ n
    l = length_filled m n

    go : (t : Bool) → ltb i n ≡ t → (i < n → get_or (filled_of m n) i 0 ≡ register_at m i)
        → get_or (filled_of m n ++ (register_at m n ∷ [])) i 0 ≡ register_at m i
    go true e before =
        let h : i < n = ltb-true i n e in
        sym (get_or-take n (filled_of m n ++ (register_at m n ∷ [])) i 0 h)
        ∙ ap (λ k. get_or (take k (filled_of m n ++ (register_at m n ∷ []))) i 0) (sym l)
        ∙ ap (λ xs. get_or xs i 0) (take-append_seam (filled_of m n) (register_at m n ∷ []))
        ∙ before h
    go false e before =
        let g : n ≤ i = ltb-false i n e in
        let f : n ≡ i = omega arith in
        get_or_at (filled_of m n) (register_at m n) [] 0 i (l ∙ f) ∙ ap (register_at m) f
