-- One pass over digits finds what the word is as a number: the digits up to the first byte that is none are the whole word if it ends
-- there, and a count that stops growing is past every number that is asked for.
-- Assumes nothing.
use mathlib.Core.Path.{◌≡◌, refl, sym, ap, ◌∙◌}
use mathlib.Core.Bool.{Bool, true, false, not, ◌&&◌, cond, and-false, and-eq-true_iff}
use mathlib.Core.List.{List, [], ◌∷◌, ◌++◌}
use Rattle.std.specs.Prelude.{Option, None, Some}
use Prim.Native.Nat.{ℕ, suc, ◌+◌, ◌-◌, ◌*◌, ◌%◌, ◌<◌, ◌≤◌, min}
use native.Mathlib.Omega.{arith}
use borrow.Author.Tests.{ltb-true, ltb-false, leb-true, leb-false, lt-ltb, le-ltb, le-leb, lt-leb, eqb-true}
use lib.Dec.{leb, ltb}
use lib.ListN.{length, take, drop, get_or, length-drop}
use lib.Seq.{take-suc, get_or-drop, drop-drop, length-take-le}
use Rattle.laws.specs.Fold.{gather}
use Rattle.text.specs.Lines.{until}
use Rattle.text.specs.Words.{is_space, word, ends_word, figure, read_at}
use Rattle.text.specs.Numbers.{is_digit, all_digits, is_number, decimal_of, number_of}
use Rattle.text.specs.Scan.{with_digit, taken_of}
use Rattle.text.specs.declared.words.Figure.{Figure}
use Rattle.text.proofs.Places.{Ahead, one_on, at_first, at_end, until_le}

abbrev pub is_no_digit : ℕ → Bool
is_no_digit b = not (is_digit b)

wrong : {A : Type 0} → true ≡ false → A
wrong e = absurd (let z : ◌≡◌ {A = ℕ} 0 1 = cc in omega arith)

pub digit_range : (b : ℕ) → is_digit b ≡ true → (48 ≤ b) × (b ≤ 57)
digit_range b e =
    let p = (and-eq-true_iff (leb 48 b) (leb b 57)).0 e in
    (leb-true 48 b p.0, leb-true b 57 p.1)

-- ---- the digits that a text starts with

-- how many there are
abbrev pub run : List ℕ → ℕ
run text = until is_no_digit text

record Run (text : List ℕ) : Type 0 where
  all : all_digits (word text) ≡ ends_word (drop (run text) text)
  whole : ends_word (drop (run text) text) ≡ true → word text ≡ take (run text) text
  some : is_number (word text) ≡ (ltb 0 (run text) && ends_word (drop (run text) text))

-- by its first byte
record Case (b : ℕ) (bs : List ℕ) (d s : Bool) : Type 0 where
  all : all_digits (cond s [] (b ∷ word bs)) ≡ ends_word (drop (cond (not d) 0 (suc (run bs))) (b ∷ bs))
  whole : ends_word (drop (cond (not d) 0 (suc (run bs))) (b ∷ bs)) ≡ true → cond s [] (b ∷ word bs)
      ≡ take (cond (not d) 0 (suc (run bs))) (b ∷ bs)
  some : is_number (cond s [] (b ∷ word bs))
      ≡ (ltb 0 (cond (not d) 0 (suc (run bs))) && ends_word (drop (cond (not d) 0 (suc (run bs))) (b ∷ bs)))

case : (b : ℕ) (bs : List ℕ) (d : Bool) → is_digit b ≡ d → (s : Bool) → is_space b ≡ s → Run bs → Case b bs d s
case b bs true e true f r =
    let h = digit_range b e in
    let k : b ≡ 32 = eqb-true b 32 f in
    absurd (omega arith)
case b bs true e false f r = record {
  all = rw e r.all;
  whole = λ h. ap (λ (l : List ℕ). b ∷ l) (r.whole h);
  some = rw (e, lt-ltb 0 (suc (run bs)) (omega arith)) r.all;
}
case b bs false e true f r = record { all = sym f; whole = λ h. refl; some = refl }
case b bs false e false f r = record { all = rw e (sym f); whole = λ h. wrong (sym h ∙ f); some = rw e }

runs : (text : List ℕ) → Run text
runs [] = record { all = refl; whole = λ e. refl; some = refl }
runs (b ∷ bs) = let k = case b bs (is_digit b) refl (is_space b) refl (runs bs) in record { all = k.all; whole = k.whole; some = k.some }

-- ---- the loop

gather_last : (f : ℕ → ℕ → ℕ) (z : ℕ) (xs : List ℕ) (x : ℕ) → gather f z (xs ++ (x ∷ [])) ≡ f (gather f z xs) x
gather_last f z [] x = refl
gather_last f z (y ∷ xs) x = gather_last f (f z y) xs x

-- the digits from one place to another are taken in
pub record Scanned (line : List ℕ) (from at value : ℕ) : Type 0 where
  pub ahead : Ahead is_no_digit line from at
  pub far : from ≤ at
  pub so_far : min value 1000000000000 ≡ min (decimal_of (take (at - from) (drop from line))) 1000000000000

grown : (value sum b : ℕ) → min value 1000000000000 ≡ min sum 1000000000000 → (48 ≤ b) × (b ≤ 57)
    → min (with_digit value b) 1000000000000 ≡ min (10 * sum + (b - 48)) 1000000000000
grown value sum b e r = go (ltb value 1000000000000) refl
  where
    go : (t : Bool) → ltb value 1000000000000 ≡ t → min (cond t (10 * value + b % 16) value) 1000000000000
        ≡ min (10 * sum + (b - 48)) 1000000000000
    go true f = let h = ltb-true value 1000000000000 f in let d : b % 16 ≡ b - 48 = omega arith in omega arith
    go false f = let h = ltb-false value 1000000000000 f in omega arith

module _ {line : List ℕ} {from at value : ℕ} where
  pub one_scanned : {more : ℕ} → Scanned line from at value → more ≡ with_digit value (get_or line at 0) → at < length line
      → is_digit (get_or line at 0) ≡ true
      → Scanned line from (at + 1) more
  one_scanned {more} s q h d =
      let k : at + 1 - from ≡ suc (at - from) = omega (arith, s.far) in
      let l : at - from < length (drop from line) = rw length-drop (omega (arith, s.far)) in
      let i : from + (at - from) ≡ at = omega (arith, s.far) in
      let b : get_or (drop from line) (at - from) 0 ≡ get_or line at 0 = get_or-drop from line (at - from) 0 ∙ ap (λ (n : ℕ). get_or line n 0) i in
      record {
        ahead = one_on s.ahead h (ap not d);
        far = omega (arith, s.far);
        so_far =
            rw (q, k, take-suc (drop from line) (at - from) 0 l, b, gather_last)
            (grown value (decimal_of (take (at - from) (drop from line))) (get_or line at 0) s.so_far (digit_range (get_or line at 0) d));
      }

-- ---- its end

pub a_digit : {r : Bool} (b : ℕ) (t : Bool) → r ≡ is_digit b → r ≡ t → is_digit b ≡ t
a_digit b t e f = sym e ∙ f

module _ (line : List ℕ) (from end value most : ℕ) where
  pub taken_in : {ends : Bool} → value ≤ most → from < end → ends ≡ ends_word (drop end line) → ends ≡ true
      → figure end (Some value) ≡ taken_of line from end value most
  taken_in h k e t = rw (le-leb value most h, lt-ltb from end k, ← e, t)

  pub too_high : most < value → None ≡ taken_of line from end value most
  too_high h = rw (lt-leb value most h)

  pub no_digit : end ≤ from → None ≡ taken_of line from end value most
  no_digit h = go (leb value most)
    where
      go : (t : Bool) → None ≡ cond t (cond (ltb from end && ends_word (drop end line)) (figure end (Some value)) None) None
      go true = rw (le-ltb from end h)
      go false = refl

  pub no_end : {ends : Bool} → ends ≡ ends_word (drop end line) → ends ≡ false → None ≡ taken_of line from end value most
  no_end e t = go (leb value most)
    where
      go : (t : Bool) → None ≡ cond t (cond (ltb from end && ends_word (drop end line)) (figure end (Some value)) None) None
      go true = rw (← e, t, and-false)
      go false = refl

module _ (line : List ℕ) (from value most : ℕ) where
  abbrev text : List ℕ
  text = drop from line

  taken : most < 1000000000000 → min value 1000000000000 ≡ min (decimal_of (take (run text) text)) 1000000000000
      → taken_of line from (from + run text) value most ≡ read_at (number_of most) line from
  taken h e = rw (← drop-drop (run text) from line, before) (go (ltb 0 (run text) && ends_word (drop (run text) text)) refl (leb value most)
      refl)
    where
      before : ltb from (from + run text) ≡ ltb 0 (run text)
      before = go (ltb 0 (run text)) refl
        where
          go : (t : Bool) → ltb 0 (run text) ≡ t → ltb from (from + run text) ≡ t
          go true f = let h = ltb-true 0 (run text) f in lt-ltb from (from + run text) (omega arith)
          go false f = let h = ltb-false 0 (run text) f in le-ltb from (from + run text) (omega arith)

      number : is_number (word text) ≡ (ltb 0 (run text) && ends_word (drop (run text) text))
      number = (runs text).some

      long : length (take (run text) text) ≡ run text
      long = length-take-le (run text) text (until_le is_no_digit text)

      sum : ℕ
      sum = decimal_of (take (run text) text)

      go : (g : Bool) → (ltb 0 (run text) && ends_word (drop (run text) text)) ≡ g → (t : Bool) → leb value most ≡ t
          → cond t (cond g (figure (from + run text) (Some value)) None) None ≡ read_at (number_of most) line from
      go false f true k = rw (number ∙ f)
      go false f false k = rw (number ∙ f)
      go true f true k =
          let i = leb-true value most k in
          let ends = ((and-eq-true_iff (ltb 0 (run text)) (ends_word (drop (run text) text))).0 f).1 in
          let v : decimal_of (take (run text) text) ≡ value = omega (arith, e) in
          rw (number ∙ f, (runs text).whole ends, long, v, k)
      go true f false k =
          let i = leb-false value most k in
          let ends = ((and-eq-true_iff (ltb 0 (run text)) (ends_word (drop (run text) text))).0 f).1 in
          let v : leb (decimal_of (take (run text) text)) most ≡ false = lt-leb (decimal_of (take (run text) text)) most (omega (arith, e)) in
          rw (number ∙ f, (runs text).whole ends, v)

  pub stop : {at : ℕ} {r : Option Figure} → Scanned line from at value → at ≡ from + run text → r ≡ taken_of line from at value most → most ≤ 4294967296
      → r ≡ read_at (number_of most) line from
  stop {at} s p q h =
      let k : at - from ≡ run text = omega (arith, p) in
      q ∙ ap (λ (n : ℕ). taken_of line from n value most) p ∙ taken (omega arith) (rw k at s.so_far)

-- a byte that is no digit, or the line's end
pub ran_up : {line : List ℕ} {from at value : ℕ} → Scanned line from at value → at < length line → is_digit (get_or line at 0) ≡ false
    → at ≡ from + run (drop from line)
ran_up s l d = at_first s.ahead l (ap not d)

pub ran_out : {line : List ℕ} {from at value : ℕ} → Scanned line from at value → length line ≤ at → at ≡ from + run (drop from line)
ran_out s l = at_end s.ahead l
