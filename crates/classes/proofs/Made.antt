-- A record is made number by number, low byte first, behind those before it. Assumes nothing.
use mathlib.Core.Path.{◌≡◌, refl, sym, ap, ap₂, ◌∙◌}
use mathlib.Core.List.{List, [], ◌∷◌, ◌++◌, append_assoc}
use Prim.Native.Nat.{ℕ, suc, ◌+◌, ◌-◌, ◌*◌, ◌<◌}
use native.Mathlib.Numerals.{add-one}
use native.Mathlib.Omega.{arith}
use lib.ListN.{length, get_or, take, drop, replicate, length-append, length-replicate}
use lib.Seq.{sets, sets-eq, take-suc, take_at, drop-append-add, length-take-le}
use Rattle.laws.specs.History.{each}
use Rattle.laws.proofs.Lists.{each_more}
use Rattle.numbers.specs.Numbers.{le16, le32, Wrote}
use Rattle.numbers.proofs.Writing.{same}
use Rattle.settings.specs.declared.Settings.{Settings}
use Rattle.settings.specs.Settings.{register_of}
use Rattle.classes.specs.Store.{twelve, record_of}

module _ (edition : ℕ) (s : Settings) where
  abbrev word : ℕ → List ℕ
  word at = le16 (register_of s at)

  -- the edition and i of the twelve, and zeros up to 32 bytes
  pub record Laid (i : ℕ) (l : List ℕ) : Type 0 where
    pub same : length l ≡ 32
    pub laid : l ≡ le32 edition ++ each word (take i twelve) ++ replicate (28 - 2 * i) 0

  pub none_laid : {l : List ℕ} → Wrote (replicate 32 0) 0 (le32 edition) l → Laid 0 l
  none_laid w = record { same = same w; laid = w.wrote }

  length_words : (ats : List ℕ) → length (each word ats) ≡ 2 * length ats
  length_words [] = refl
  length_words (at ∷ ats) = let e = length_words ats in omega arith

  pub one_laid : {i at value : ℕ} {l l₁ : List ℕ} → Laid i l → i < 12 → at ≡ get_or twelve i 0 → value ≡ register_of s at
      → Wrote l (4 + 2 * i) (le16 value) l₁ → Laid (i + 1) l₁
  one_laid {i} {at} {value} {l} {l₁} c h p q w =
      let front = le32 edition ++ each word (take i twelve) in
      let rest : List ℕ = replicate (28 - 2 * (i + 1)) 0 in
      let t : length (take i twelve) ≡ i = length-take-le i twelve (omega arith) in
      let f : length front ≡ 4 + 2 * i =
      length-append (le32 edition) (each word (take i twelve))
      ∙ ap (λ (n : ℕ). 4 + n) (length_words (take i twelve) ∙ ap (λ (n : ℕ). 2 * n) t) in
      let k : 28 - 2 * i ≡ suc (suc (28 - 2 * (i + 1))) = omega arith in
      let m : length (front ++ 0 ∷ 0 ∷ rest) ≡ 32 = simp (length-append front, length-replicate) (omega arith) in
      let words : each word (take (i + 1) twelve) ≡ each word (take i twelve) ++ le16 value =
      ap (λ (n : ℕ). each word (take n twelve)) (add-one i)
      ∙ ap (each word) (take-suc twelve i 0 (omega arith))
      ∙ each_more word (take i twelve) (get_or twelve i 0)
      ∙ ap (λ (n : ℕ). each word (take i twelve) ++ le16 n) (sym (q ∙ ap (register_of s) p)) in
      record {
        same = same w ∙ c.same;
        laid =
            w.wrote
            ∙ ap (λ (y : List ℕ). sets y (4 + 2 * i) (le16 value)) (c.laid ∙ ap (λ (n : ℕ). front ++ replicate n 0) k)
            ∙ sets-eq (le16 value) (front ++ 0 ∷ 0 ∷ rest) (4 + 2 * i) (omega arith)
            ∙ ap₂ (λ (a b : List ℕ). a ++ le16 value ++ b) (take_at front (0 ∷ 0 ∷ rest) (4 + 2 * i) f)
            (ap (λ (n : ℕ). drop (n + 2) (front ++ 0 ∷ 0 ∷ rest)) (sym f) ∙ drop-append-add front (0 ∷ 0 ∷ rest) 2)
            ∙ ap (λ (a : List ℕ). a ++ rest)
            (append_assoc (le32 edition) (each word (take i twelve)) (le16 value) ∙ ap (λ (a : List ℕ). le32 edition ++ a) (sym words));
      }

  pub all_laid : {i : ℕ} {l : List ℕ} → Laid i l → i ≡ 12 → l ≡ record_of edition s
  unfolding record_of
  all_laid {i} c e = c.laid ∙ ap (λ (n : ℕ). le32 edition ++ each word (take n twelve) ++ replicate (28 - 2 * n) 0) e
