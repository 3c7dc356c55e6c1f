-- Texts that are written one after the other are one text, and a text is put where there is room. Assumes nothing.
use mathlib.Core.Path.{◌≡◌, refl, sym, ap, ap₂, ◌∙◌}
use mathlib.Core.Bool.{Bool, true, false, cond}
use mathlib.Core.List.{List, [], ◌∷◌, ◌++◌, append_assoc, append-nil}
use Prim.Native.Nat.{ℕ, zero, suc, ◌+◌, ◌*◌, ◌<◌, ◌≤◌}
use native.Mathlib.Nat.{add-zero, mul-zero, mul-suc}
use native.Mathlib.Numerals.{add-one}
use native.Mathlib.Omega.{arith}
use borrow.Author.Tests.{leb-true, le-leb}
use lib.Dec.{leb}
use lib.ListN.{length, take, get_or, set, length-append}
use lib.Seq.{sets, sets-eq, length-sets, take-suc, take_all, take-length, length-take-le}
use borrow.Rule.Slice.PartMut.{put_mid}
use Rattle.std.proofs.lemmas.Slice.{put_mid-paste}
use Rattle.text.specs.Digits.{each_text, spaced_text, bytes_text, Wrote, Put}

sets_append : (xs ys l : List ℕ) (at : ℕ) → sets (sets l at xs) (at + length xs) ys ≡ sets l at (xs ++ ys)
sets_append [] ys l at = rw add-zero
sets_append (x ∷ xs) ys l at =
    let e : at + suc (length xs) ≡ suc at + length xs = omega arith in
    rw e (sets_append xs ys (set l at x) (suc at))

pub none : {l : List ℕ} {at : ℕ} → Wrote l at [] at l
none {l} {at} = record { place = sym (add-zero at); bytes = refl }

pub one : {l : List ℕ} {at : ℕ} (b : ℕ) → Wrote l at (b ∷ []) (at + 1) (set l at b)
one b = record { place = refl; bytes = refl }

pub join : {l₀ l₁ l₂ xs ys : List ℕ} {at p₁ p₂ : ℕ} → Wrote l₀ at xs p₁ l₁ → Wrote l₁ p₁ ys p₂ l₂ → Wrote l₀ at (xs ++ ys) p₂ l₂
join {l₀} {l₁} {l₂} {xs} {ys} {at} {p₁} {p₂} v w =
    record {
      place = rw length-append (omega (arith, v.place, w.place));
      bytes = w.bytes ∙ ap₂ (λ (l : List ℕ) (p : ℕ). sets l p ys) v.bytes v.place ∙ sets_append xs ys l₀ at;
    }

-- where the room was asked for as many bytes as the text has
pub put_room : {l l' text : List ℕ} {at next : ℕ} (n : ℕ) {r : Bool} → Wrote l at text next l' → length text ≡ n
    → r ≡ leb (at + n) (length l) → r ≡ true → Put l at text next l'
put_room {l} {text = text} {at} n w k e t =
    let f : leb (at + length text) (length l) ≡ true = rw k (sym e ∙ t) in
    record { place = rw f w.place; bytes = rw f w.bytes }

pub put_none : {l text : List ℕ} {at : ℕ} (n : ℕ) {r : Bool} → length text ≡ n → r ≡ leb (at + n) (length l) → r ≡ false
    → Put l at text at l
put_none {l} {text} {at} n k e t =
    let f : leb (at + length text) (length l) ≡ false = rw k (sym e ∙ t) in
    record { place = rw f; bytes = rw f }

-- what has room is written
pub put_wrote : {l l' text : List ℕ} {at next : ℕ} → Put l at text next l' → at + length text ≤ length l → Wrote l at text next l'
put_wrote {l} {text = text} {at} p h =
    let f : leb (at + length text) (length l) ≡ true = le-leb (at + length text) (length l) h in
    record { place = rw f at p.place; bytes = rw f at p.bytes }

pub same_long : {l l' text : List ℕ} {at next : ℕ} → Wrote l at text next l' → length l' ≡ length l
same_long {l} {text = text} {at} w = ap length w.bytes ∙ length-sets l at text

-- a text that is put behind another, where there is room for both
pub join_put : {l₀ l₁ l₂ xs ys : List ℕ} {at p₁ p₂ : ℕ} → Wrote l₀ at xs p₁ l₁ → Put l₁ p₁ ys p₂ l₂
    → at + length xs + length ys ≤ length l₀ → Wrote l₀ at (xs ++ ys) p₂ l₂
join_put v p h = let same = same_long v in join v (put_wrote p (omega (arith, v.place)))

-- nothing has room everywhere
pub put_nothing : {l : List ℕ} {at : ℕ} → Put l at [] at l
put_nothing {l} {at} = record { place = place (leb (at + 0) (length l)); bytes = bytes (leb (at + 0) (length l)) }
  where
    place : (t : Bool) → at ≡ cond t (at + 0) at
    place true = sym (add-zero at)
    place false = refl

    bytes : (t : Bool) → l ≡ cond t l l
    bytes true = refl
    bytes false = refl

-- ---- room

pub has : (a b : ℕ) {r : Bool} → r ≡ leb a b → r ≡ true → a ≤ b
has a b e t = leb-true a b (sym e ∙ t)

-- ---- texts in a row

pub each_length : (k : ℕ) (text : ℕ → List ℕ) → ((b : ℕ) → length (text b) ≡ k) → (bs : List ℕ) → length (each_text text bs) ≡ k * length bs
each_length k text long [] = sym (mul-zero k)
each_length k text long (b ∷ bs) =
    let e = each_length k text long bs in
    length-append (text b) (each_text text bs) ∙ omega (arith, long b, mul-suc k (length bs))

module _ (text : ℕ → List ℕ) where
  each_append : (xs ys : List ℕ) → each_text text (xs ++ ys) ≡ each_text text xs ++ each_text text ys
  each_append [] ys = refl
  each_append (x ∷ xs) ys =
      ap (λ (l : List ℕ). text x ++ l) (each_append xs ys) ∙ sym (append_assoc (text x) (each_text text xs) (each_text text ys))

  -- so many, and one more
  each_suc : (bs : List ℕ) (i : ℕ) → i < length bs → each_text text (take (i + 1) bs) ≡ each_text text (take i bs) ++ text (get_or bs i 0)
  each_suc bs i h = rw (add-one, take-suc bs i 0 h, each_append, append-nil)

  pub each_long : (bs : List ℕ) (i : ℕ) → i < length bs
      → length (each_text text (take (i + 1) bs)) ≡ length (each_text text (take i bs)) + length (text (get_or bs i 0))
  each_long bs i h = ap length (each_suc bs i h) ∙ length-append (each_text text (take i bs)) (text (get_or bs i 0))

  pub each_more : {l₀ l₁ l₂ : List ℕ} {at p₁ p₂ : ℕ} (bs : List ℕ) (i : ℕ) → Wrote l₀ at (each_text text (take i bs)) p₁ l₁
      → Wrote l₁ p₁ (text (get_or bs i 0)) p₂ l₂ → i < length bs → Wrote l₀ at (each_text text (take (i + 1) bs)) p₂ l₂
  each_more bs i v w h = rw (each_suc bs i h) (join v w)

  -- so many and one more have no more bytes than all
  pub each_room : (bs : List ℕ) (i : ℕ) → i < length bs
      → length (each_text text (take i bs)) + length (text (get_or bs i 0)) ≤ length (each_text text bs)
  each_room [] i h = absurd (omega arith)
  each_room (b ∷ bs) zero h = rw length-append (omega arith)
  each_room (b ∷ bs) (suc i) h =
      let more = each_room bs i (omega arith) in
      rw (length-append (text b) (each_text text (take i bs)), length-append (text b) (each_text text bs)) (omega arith)

  pub each_wrote : {l₀ l₁ : List ℕ} {at p : ℕ} (bs : List ℕ) (i : ℕ) → Wrote l₀ at (each_text text (take i bs)) p l₁ → length bs ≤ i
      → Wrote l₀ at (each_text text bs) p l₁
  each_wrote bs i w h = rw (take_all i bs h) at w

pub bytes_length : (bs : List ℕ) → length (bytes_text bs) ≡ 3 * length bs
bytes_length bs = each_length 3 spaced_text (λ b. refl) bs

pub bytes_place : {l₀ l₁ : List ℕ} {at p : ℕ} (bs : List ℕ) (i : ℕ) → Wrote l₀ at (bytes_text (take i bs)) p l₁ → i ≤ length bs
    → p ≡ at + 3 * i
bytes_place bs i w h =
    let e = bytes_length (take i bs) in
    let f = length-take-le i bs h in
    omega (arith, w.place)

-- ---- the bytes of a text

pub put_in : (l text part : List ℕ) (at k : ℕ) → part ≡ text → length text ≡ k → at + length text ≤ length l → put_mid at k l part ≡ sets l at text
put_in l text part at k e f h = put_mid-paste at k l part text (length text) e f refl ∙ rw (take-length text) (sym (sets-eq text l at h))
