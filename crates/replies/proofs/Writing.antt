-- What ends a reply, and words in a row, whatever the buffer's length: by what is put, byte by byte. Assumes nothing.
use mathlib.Core.Bool.{Bool, true, false}
use mathlib.Core.Path.{◌≡◌, refl, sym, ap, ap₂, ◌∙◌}
use mathlib.Core.List.{List, [], ◌∷◌, ◌++◌, append-nil}
use Prim.Native.Nat.{ℕ, zero, suc, ◌+◌, ◌-◌, ◌*◌, ◌≤◌, ◌<◌, min}
use native.Mathlib.Nat.{zero-add, sub-zero, suc-sub-suc, mul-suc}
use native.Mathlib.Numerals.{add-one}
use native.Mathlib.Omega.{arith}
use borrow.Author.Tests.{leb-true, leb-false}
use lib.Dec.{leb}
use lib.ListN.{length, take, drop, set, replicate, length-append, length-drop, length-replicate, drop_of_length-le}
use borrow.Rule.Slice.PartMut.{put_mid}
use Rattle.std.proofs.Math.Seq.{take-length}
use lib.Seq.{sets, take_all, length-take-le}
use Rattle.laws.proofs.Lists.{take_min}
use Rattle.crc.specs.Crc.{crc_of}
use Rattle.numbers.specs.Numbers.{le16, Wrote}
use Rattle.numbers.proofs.Writing.{past, same, join_at}
use Rattle.replies.specs.Replies.{word16, words, sealed, padded, Filled}

-- ---- bytes and zeros

-- n bytes: those, then zeros
fit : ℕ → List ℕ → List ℕ
fit zero xs = []
fit (suc n) [] = 0 ∷ fit n []
fit (suc n) (x ∷ xs) = x ∷ fit n xs

zeros : (n : ℕ) → take n (replicate n 0) ≡ fit n []
unfolding fit
zeros zero = refl
zeros (suc n) = ap (λ (l : List ℕ). 0 ∷ l) (zeros n)

fits : (n : ℕ) (xs : List ℕ) → take n (padded n xs) ≡ fit n xs
unfolding padded fit
fits zero xs = refl
fits (suc n) [] = ap (λ k. take (suc n) (replicate k 0)) (sub-zero (suc n)) ∙ zeros (suc n)
fits (suc n) (x ∷ xs) =
    ap (λ k. x ∷ take n (xs ++ replicate k 0)) (suc-sub-suc n (length xs)) ∙ ap (λ (l : List ℕ). x ∷ l) (fits n xs)

-- a byte before the place stays
behind : (x : ℕ) (l ys : List ℕ) (at : ℕ) → sets (x ∷ l) (suc at) ys ≡ x ∷ sets l at ys
behind x l [] at = refl
behind x l (y ∷ ys) at = behind x (set l at y) ys (suc at)

-- bytes put into zeros, and bytes put behind the others
into_zeros : (n : ℕ) (ys : List ℕ) → sets (fit n []) 0 ys ≡ fit n ys
unfolding fit
into_zeros n [] = refl
into_zeros zero (y ∷ ys) = past [] (y ∷ ys) 0 (omega arith)
into_zeros (suc n) (y ∷ ys) = behind y (fit n []) ys 0 ∙ ap (λ (l : List ℕ). y ∷ l) (into_zeros n ys)

put_behind : (n : ℕ) (xs ys : List ℕ) → sets (fit n xs) (length xs) ys ≡ fit n (xs ++ ys)
unfolding fit
put_behind n [] ys = into_zeros n ys
put_behind zero (x ∷ xs) ys = past [] ys (suc (length xs)) (omega arith)
put_behind (suc n) (x ∷ xs) ys = behind x (fit n xs) ys (length xs) ∙ ap (λ (l : List ℕ). x ∷ l) (put_behind n xs ys)

-- what stands past the room may be any
cut : (n : ℕ) (xs ys zs : List ℕ) → n ≤ length xs → fit n (xs ++ ys) ≡ fit n (take n xs ++ zs)
unfolding fit
cut zero xs ys zs h = refl
cut (suc n) [] ys zs h = absurd (omega arith)
cut (suc n) (x ∷ xs) ys zs h = ap (λ (l : List ℕ). x ∷ l) (cut n xs ys zs (omega arith))

-- so the bytes may be cut to the room before their CRC is found
cut_sealed : (n : ℕ) (xs : List ℕ) → fit n (sealed (take n xs)) ≡ fit n (sealed xs)
unfolding sealed
cut_sealed n xs = go (leb n (length xs)) refl
  where
    go : (t : Bool) → leb n (length xs) ≡ t → fit n (sealed (take n xs)) ≡ fit n (sealed xs)
    go true e = sym (cut n xs (le16 (crc_of xs)) (le16 (crc_of (take n xs))) (leb-true n (length xs) e))
    go false e = ap (λ (l : List ℕ). fit n (sealed l)) (take_all n xs (let h = leb-false n (length xs) e in omega arith))

-- with room for them the bytes stand whole
pub whole : {l₀ l₁ xs : List ℕ} → Filled l₀ xs l₁ → length xs ≤ length l₀ → l₁ ≡ padded (length l₀) xs
unfolding padded
whole {l₀} {l₁} {xs} f h = f.filled ∙ take_all (length l₀) _ (simp (length-append, length-replicate) (omega arith))

-- ---- zeros from a place to the end

-- the part from `start` on holds zeros
pub zeros_put : (from : ℕ) {l₀ part : List ℕ} {start : ℕ} → start ≡ min from (length l₀)
    → part ≡ replicate (length (take (length l₀ - start) (drop start l₀))) 0
    → Filled l₀ (take from l₀) (put_mid start (length l₀ - start) l₀ part)
unfolding padded
zeros_put from {l₀} {part} {start} f e =
    let t : take start l₀ ≡ take from l₀ = ap (λ n. take n l₀) f ∙ take_min from l₀ in
    let s : length (take from l₀) ≡ start = sym (ap length t) ∙ length-take-le start l₀ (omega arith) in
    let size : length (take (length l₀ - start) (drop start l₀)) ≡ length l₀ - length (take from l₀) =
    ap length (ap (λ k. take k (drop start l₀)) (sym (length-drop start l₀)) ∙ take-length (drop start l₀))
    ∙ length-drop start l₀
    ∙ ap (λ k. length l₀ - k) (sym s) in
    let behind : drop (length l₀ - start) (drop start l₀) ≡ [] =
    drop_of_length-le (drop start l₀) {i = length l₀ - start} (omega (arith, length-drop start l₀)) in
    let zeroed : part ≡ replicate (length l₀ - length (take from l₀)) 0 = e ∙ ap (λ k. replicate k 0) size in
    let p : put_mid start (length l₀ - start) l₀ part ≡ take from l₀ ++ replicate (length l₀ - length (take from l₀)) 0 =
    ap₂ (λ (x y : List ℕ). x ++ y) t (ap₂ (λ (x y : List ℕ). x ++ y) zeroed behind ∙ append-nil _) in
    record { filled = p ∙ sym (take_all (length l₀) _ (simp (length-append, length-replicate) (omega arith))) }

-- ---- the end of a reply

-- zeros after the first n bytes, and then their CRC
pub seal_law : (n : ℕ) {l₀ l₁ l₂ : List ℕ} {end crc : ℕ} → Filled l₀ (take end l₀) l₁ → Wrote l₁ end (le16 crc) l₂
    → crc ≡ crc_of (take end l₀) → end ≡ min n (length l₀)
    → Filled l₀ (sealed (take n l₀)) l₂
unfolding sealed
seal_law n {l₀} {l₁} {l₂} {end} {crc} f w c e =
    let t : take end l₀ ≡ take n l₀ = ap (λ k. take k l₀) e ∙ take_min n l₀ in
    let s : length (take end l₀) ≡ end = length-take-le end l₀ (omega arith) in
    record {
      filled =
          w.wrote
          ∙ ap (λ (l : List ℕ). sets l end (le16 crc)) (f.filled ∙ fits (length l₀) (take end l₀))
          ∙ ap (λ k. sets (fit (length l₀) (take end l₀)) k (le16 crc)) (sym s)
          ∙ put_behind (length l₀) (take end l₀) (le16 crc)
          ∙ ap (λ k. fit (length l₀) (take end l₀ ++ le16 k)) c
          ∙ ap (λ (l : List ℕ). fit (length l₀) (sealed l)) t
          ∙ sym (fits (length l₀) (sealed (take n l₀)));
    }

pub sealed_length : (xs : List ℕ) → length (sealed xs) ≡ length xs + 2
unfolding sealed
sealed_length xs = length-append xs _

-- the first bytes of a buffer are what was put from its start
from_start : (l xs : List ℕ) → take (length xs) (sets l 0 xs) ≡ take (length l) xs
from_start [] xs = ap (take (length xs)) (past [] xs 0 (omega arith)) ∙ nothing (length xs)
  where
    nothing : (n : ℕ) → ◌≡◌ {A = List ℕ} (take n []) []
    nothing zero = refl
    nothing (suc n) = refl
from_start (y ∷ l) [] = refl
from_start (y ∷ l) (x ∷ xs) = ap (take (suc (length xs))) (behind x l xs 0) ∙ ap (λ (k : List ℕ). x ∷ k) (from_start l xs)

-- a reply: its two first bytes, the others, and the end
pub reply : {l₀ l₁ l₂ l₃ ys : List ℕ} {a b n : ℕ} → Wrote l₀ 0 (a ∷ b ∷ []) l₁ → Wrote l₁ 2 ys l₂ → Filled l₂ (sealed (take n l₂)) l₃
    → n ≡ 2 + length ys → Filled l₀ (sealed (a ∷ b ∷ ys)) l₃
reply {l₀} {l₂ = l₂} {l₃} {ys} {a} {b} {n} p q e h =
    let xs : List ℕ = a ∷ b ∷ ys in
    let w : Wrote l₀ 0 xs l₂ = join_at p q refl in
    let k : n ≡ length xs = omega arith in
    let m : length l₂ ≡ length l₀ = same w in
    let t : take n l₂ ≡ take (length l₀) xs = ap (λ j. take j l₂) k ∙ ap (take (length xs)) w.wrote ∙ from_start l₀ xs in
    record {
      filled =
          e.filled
          ∙ ap (λ j. take j (padded j (sealed (take n l₂)))) m
          ∙ ap (λ (l : List ℕ). take (length l₀) (padded (length l₀) (sealed l))) t
          ∙ fits (length l₀) (sealed (take (length l₀) xs))
          ∙ cut_sealed (length l₀) xs
          ∙ sym (fits (length l₀) (sealed xs));
    }

-- ---- words in a row

-- two rows whose words have the same bytes, place by place
pub words_alike : (bytes bytes' : ℕ → List ℕ) (f g : ℕ → ℕ) (at to n : ℕ) → ((i : ℕ) → i < n → bytes (f (at + i)) ≡ bytes' (g (to + i)))
    → words bytes f at n ≡ words bytes' g to n
unfolding words
words_alike bytes bytes' f g at to zero e = refl
words_alike bytes bytes' f g at to (suc n) e = rw (words_alike bytes bytes' f g at to n (λ i l. e i (omega arith)), e n (omega arith))

pub words_length : (k : ℕ) (bytes : ℕ → List ℕ) (f : ℕ → ℕ) (at n : ℕ) → ((w : ℕ) → length (bytes w) ≡ k)
    → length (words bytes f at n) ≡ k * n
unfolding words
words_length k bytes f at zero e = omega arith
words_length k bytes f at (suc n) e =
    let i = words_length k bytes f at n e in
    let j = e (f (at + n)) in
    let m = mul-suc k n in
    simp length-append (omega arith)

pub two_bytes : (high_first : Bool) (w : ℕ) → length (word16 high_first w) ≡ 2
two_bytes true w = refl
two_bytes false w = refl

module _ (high_first : Bool) (f : ℕ → ℕ) where
  pub length_words : (n : ℕ) → length (words (word16 high_first) f 0 n) ≡ 2 * n
  length_words n = words_length 2 (word16 high_first) f 0 n (two_bytes high_first)

  pub words_more : {l₀ l₁ l₂ : List ℕ} {at to : ℕ} (i w : ℕ) → Wrote l₀ at (words (word16 high_first) f 0 i) l₁
      → Wrote l₁ to (word16 high_first w) l₂ → w ≡ f i → to ≡ at + 2 * i
      → Wrote l₀ at (words (word16 high_first) f 0 (i + 1)) l₂
  unfolding words
  words_more i w p q e h = rw (add-one, zero-add, ← e) (join_at p q (omega (arith, length_words i)))
