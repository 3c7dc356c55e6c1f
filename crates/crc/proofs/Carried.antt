-- An even number that is exclusive-ored in goes through a shift halved: so far the step is linear for exclusive-or. So bits above the n
-- lowest only move down while those are shifted out, and n shifts of a number are its upper bits, exclusive-ored with n shifts of its
-- lowest.
-- Assumes nothing.
use mathlib.Core.Path.{◌≡◌, refl, sym, ap, ◌∙◌}
use mathlib.Core.Bool.{Bool, true, false, cond}
use Prim.Native.Nat.{ℕ, zero, suc, ◌*◌, ◌/◌, ◌%◌, ◌^◌}
use native.Mathlib.Nat.{mod-lt, mul-one}
use native.Mathlib.Omega.{arith}
use lib.Arith.{bin_ind}
use lib.Dec.{eqb}
use lib.Pow.{split, pow_pos}
use lib.Bits.{bit_xor, xor_shr, xor_shifted, xor_add_and, shifted_half, shifted_even}
use Rattle.crc.specs.Crc.{shifted_out, times}

-- one bit more: the halves are equal, and both sides are as odd as the sum of the three
bit_more : (a b c : ℕ) → bit_xor (bit_xor (a / 2) (b / 2)) (c / 2) ≡ bit_xor (a / 2) (bit_xor (b / 2) (c / 2))
    → bit_xor (bit_xor a b) c ≡ bit_xor a (bit_xor b c)
bit_more a b c e =
    let halves : bit_xor (bit_xor a b) c / 2 ≡ bit_xor a (bit_xor b c) / 2 =
    cc (xor_shr (bit_xor a b) c 1, xor_shr a b 1, xor_shr a (bit_xor b c) 1, xor_shr b c 1) in
    omega (arith, xor_add_and (bit_xor a b) c, xor_add_and a b, xor_add_and a (bit_xor b c), xor_add_and b c)

xor_assoc : (a b c : ℕ) → bit_xor (bit_xor a b) c ≡ bit_xor a (bit_xor b c)
xor_assoc =
    bin_ind (λ (a : ℕ). (b c : ℕ) → bit_xor (bit_xor a b) c ≡ bit_xor a (bit_xor b c)) (λ b c. refl)
    (λ a before b c. bit_more a b c (before (b / 2) (c / 2)))

-- whether the bit shifted out was 1 or not
either_way : (odd : Bool) (a b p : ℕ) → cond odd (bit_xor (bit_xor a b) p) (bit_xor a b) ≡ bit_xor a (cond odd (bit_xor b p) b)
either_way true a b p = xor_assoc a b p
either_way false a b p = refl

-- what is even has no part in the bit that is shifted out
even_down : (a b : ℕ) → a % 2 ≡ 0 → shifted_out (bit_xor a b) ≡ bit_xor (a / 2) (shifted_out b)
unfolding shifted_out
even_down a b even =
    let parity : bit_xor a b % 2 ≡ b % 2 = omega (arith, xor_add_and a b) in
    rw (parity, xor_shr a b 1) (either_way (eqb (b % 2) 1) (a / 2) (b / 2) _)

carried : (n h b : ℕ) → times n (bit_xor (h * 2 ^ n) b) ≡ bit_xor h (times n b)
unfolding times
carried zero h b = ap (λ (x : ℕ). bit_xor x b) (mul-one h)
carried (suc n) h b = rw (even_down (h * 2 ^ suc n) b (shifted_even h n), shifted_half) (carried n h (shifted_out b))

pub by_parts : (n c : ℕ) → bit_xor (c / 2 ^ n) (times n (c % 2 ^ n)) ≡ times n c
by_parts n c =
    sym (carried n (c / 2 ^ n) (c % 2 ^ n))
    ∙ ap (times n) (xor_shifted (c / 2 ^ n) n (c % 2 ^ n) (mod-lt c (pow_pos n)) ∙ split c n)
