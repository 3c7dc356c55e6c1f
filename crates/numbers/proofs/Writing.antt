-- How writes into bytes join, whatever their length, and that a place past the end may be cut to the end. Assumes nothing.
use mathlib.Core.Bool.{Bool, true, false}
use mathlib.Core.Path.{◌≡◌, refl, sym, ap, ap₂, ◌∙◌}
use mathlib.Core.List.{List, [], ◌∷◌, ◌++◌}
use Prim.Native.Nat.{ℕ, zero, suc, ◌+◌, ◌*◌, ◌^◌, ◌/◌, ◌%◌, ◌≤◌, ◌<◌, min}
use native.Mathlib.Nat.{not-suc-le-zero, add-zero, mul_assoc, pow-succ', mod-lt, mod-add-div}
use native.Mathlib.Omega.{arith}
use borrow.Author.Tests.{leb-true, leb-false}
use lib.Dec.{leb}
use Rattle.std.proofs.Common.{◌≢◌, below_more, get_or-set_other, get_or-set_same}
use native.Mathlib.Numerals.{add-one}
use lib.ListN.{length, get_or, set, take, get_or-eq_default}
use lib.Seq.{sets, length-sets, set_out, take-suc, length-take-le}
use Rattle.numbers.specs.Numbers.{low_first, le16, le32, Wrote}

-- ---- what is put

-- nothing
pub none : {l : List ℕ} {at : ℕ} → Wrote l at [] l
none = record { wrote = refl }

-- one byte
pub one : {l : List ℕ} {at b : ℕ} → Wrote l at (b ∷ []) (set l at b)
one = record { wrote = refl }

-- past the end nothing is put
pub past : (l xs : List ℕ) (at : ℕ) → length l ≤ at → sets l at xs ≡ l
past l [] at h = refl
past l (x ∷ xs) at h = ap (λ (k : List ℕ). sets k (suc at) xs) (set_out l at x h) ∙ past l xs (suc at) (omega arith)

pub out : {l xs : List ℕ} {at : ℕ} → length l ≤ at → Wrote l at xs l
out {l} {xs} {at} h = record { wrote = sym (past l xs at h) }

-- there are as many bytes as before
pub same : {l₀ l₁ xs : List ℕ} {at : ℕ} → Wrote l₀ at xs l₁ → length l₁ ≡ length l₀
same {l₀} {xs = xs} {at} w = ap length w.wrote ∙ length-sets l₀ at xs

-- two writes in a row are one: the second goes on where the first ended
joined : (l xs ys : List ℕ) (at : ℕ) → sets (sets l at xs) (at + length xs) ys ≡ sets l at (xs ++ ys)
joined l [] ys at = ap (λ (n : ℕ). sets l n ys) (add-zero at)
joined l (x ∷ xs) ys at =
    let e : at + suc (length xs) ≡ suc at + length xs = omega arith in
    ap (λ (n : ℕ). sets (sets (set l at x) (suc at) xs) n ys) e ∙ joined (set l at x) xs ys (suc at)

pub join_at : {l₀ l₁ l₂ xs ys : List ℕ} {at to : ℕ} → Wrote l₀ at xs l₁ → Wrote l₁ to ys l₂ → at + length xs ≡ to
    → Wrote l₀ at (xs ++ ys) l₂
join_at {l₀} {xs = xs} {ys} {at} {to} p q e =
    record {
      wrote = q.wrote ∙ ap (λ (l : List ℕ). sets l to ys) p.wrote ∙ ap (λ (n : ℕ). sets (sets l₀ at xs) n ys) (sym e)
          ∙ joined l₀ xs ys at;
    }

-- two bytes
pub two : {l₀ l₁ l₂ : List ℕ} {at a b : ℕ} → Wrote l₀ at (a ∷ []) l₁ → Wrote l₁ (at + 1) (b ∷ []) l₂ → Wrote l₀ at (a ∷ b ∷ []) l₂
two p q = join_at p q refl

-- ---- a place past the end is the end

-- within the list the default is not met
pub within : (l : List ℕ) (at d d' : ℕ) → at < length l → get_or l at d ≡ get_or l at d'
within [] at d d' h = absurd (not-suc-le-zero h)
within (x ∷ l) zero d d' h = refl
within (x ∷ l) (suc at) d d' h = within l at d d' (omega arith)

module _ {A : Type 0} (f : ℕ → A) (a : A) (end : ℕ) (same-past : (at : ℕ) → end ≤ at → f at ≡ a) where
  up_to : (at : ℕ) → f (min end at) ≡ f at
  up_to at = go (leb end at) refl
    where
      go : (t : Bool) → leb end at ≡ t → f (min end at) ≡ f at
      go true e = let h = leb-true end at e in same-past (min end at) (omega arith) ∙ sym (same-past at h)
      go false e = let h = leb-false end at e in ap f (let m : min end at ≡ at = omega arith in m)

-- ---- a number's bytes are those of its low part, and then those of its high part

parts : (k m w r q : ℕ) → w ≡ k + m → r < 256 ^ suc k
    → low_first (suc (suc w)) (r + 256 ^ suc k * q) ≡ low_first (suc k) r ++ low_first (suc m) q
parts zero m w r q e h =
    let low : (r + 256 * q) % 256 ≡ r = omega arith in
    let rest : (r + 256 * q) / 256 ≡ q = omega arith in
    let width : w ≡ m = omega arith in
    λ i. low i ∷ low_first (suc (width i)) (rest i)
parts (suc k) m w r q e h =
    let x = r + 256 ^ suc (suc k) * q in
    let y = 256 ^ suc k * q in
    let top : 256 ^ suc (suc k) * q ≡ 256 * y = ap (λ (n : ℕ). n * q) (pow-succ' 256 (suc k)) ∙ mul_assoc 256 (256 ^ suc k) q in
    let low : x % 256 ≡ r % 256 = omega arith in
    let rest : x / 256 ≡ r / 256 + y = omega arith in
    let width : w ≡ suc (k + m) = omega arith in
    let less : r / 256 < 256 ^ suc k = omega (arith, pow-succ' 256 (suc k)) in
    ap₂ {C = List ℕ} ◌∷◌ low (ap₂ (λ (v n : ℕ). low_first (suc v) n) width rest ∙ parts k m (k + m) (r / 256) q refl less)

pub in_parts : (k m w n : ℕ) → w ≡ k + m → 0 < 256 ^ suc k
    → low_first (suc k) (n % 256 ^ suc k) ++ low_first (suc m) (n / 256 ^ suc k) ≡ low_first (suc (suc w)) n
in_parts k m w n e h =
    sym (parts k m w (n % 256 ^ suc k) (n / 256 ^ suc k) e (mod-lt n h)) ∙ ap (low_first (suc (suc w))) (mod-add-div n (256 ^ suc k))

-- of 32 bits
pub of_32 : (low high n : ℕ) → low ≡ n % 65536 → high ≡ n / 65536 → le16 low ++ le16 high ≡ le32 n
of_32 low high n l h = ap₂ (λ (a b : ℕ). le16 a ++ le16 b) l h ∙ in_parts 1 1 2 n refl (omega arith)

-- a place past the largest that a number of 64 bits names is past the end of any list that has a place of it for each element
pub largest : (l : List ℕ) (at i d : ℕ) → length l < 18446744073709551616
    → get_or l (min (at + i) 18446744073709551615) d ≡ get_or l (at + i) d
largest l at i d h =
    let other : min (at + i) 18446744073709551615 ≡ min 18446744073709551615 (at + i) = omega arith in
    ap (λ (n : ℕ). get_or l n d) other
    ∙ up_to (λ (n : ℕ). get_or l n d) d 18446744073709551615 (λ n m. get_or-eq_default l d {n = n} (omega arith)) (at + i)

-- one more byte of a row
pub one_more : (l row : List ℕ) (at i b d : ℕ) → i < length row → b ≡ get_or l (at + i) d
    → ((k : ℕ) → k < i → get_or row k 0 ≡ get_or l (at + k) d) → (k : ℕ) → k < i + 1 → get_or (set row i b) k 0 ≡ get_or l (at + k) d
one_more l row at i b d h e before =
    below_more _ i (λ k m. let ne : k ≢ i = omega arith in rw get_or-set_other (before k m)) (rw get_or-set_same e)

-- one more byte of a row is put
pub one_put : {l₀ l₁ l₂ : List ℕ} {at b : ℕ} (row : List ℕ) (i to : ℕ) → Wrote l₀ at (take i row) l₁ → Wrote l₁ to (b ∷ []) l₂
    → to ≡ min (at + i) 18446744073709551615 → i < length row → b ≡ get_or row i 0 → length l₁ < 18446744073709551616
    → Wrote l₀ at (take (i + 1) row) l₂
one_put {l₀} {l₁} {l₂} {at} {b} row i to p q e h m s =
    let long : length (take i row) ≡ i = length-take-le i row (omega arith) in
    let place : to ≡ min 18446744073709551615 (at + length (take i row)) = omega arith in
    let there : sets l₁ to (b ∷ []) ≡ sets l₁ (at + length (take i row)) (b ∷ []) =
    ap (λ (n : ℕ). sets l₁ n (b ∷ [])) place
    ∙ up_to (λ (n : ℕ). sets l₁ n (b ∷ [])) l₁ 18446744073709551615 (λ n k. past l₁ (b ∷ []) n (omega arith)) (at + length (take i row)) in
    let r : take (i + 1) row ≡ take i row ++ (b ∷ []) =
    ap (λ (n : ℕ). take n row) (add-one i) ∙ take-suc row i 0 h ∙ ap (λ (x : ℕ). take i row ++ (x ∷ [])) (sym m) in
    rw r (join_at p (record { wrote = q.wrote ∙ there }) refl)
