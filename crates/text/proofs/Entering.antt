-- A loop that reads word after word and enters each value: it goes through the words of the line in order. Assumes nothing.
use mathlib.Core.Path.{◌≡◌, refl, sym, ap, ◌∙◌}
use mathlib.Core.Bool.{Bool, true, false, not, ◌&&◌, cond}
use mathlib.Core.List.{List, [], ◌∷◌, ◌++◌}
use Rattle.std.specs.Prelude.{Option, None, Some}
use Prim.Native.Nat.{ℕ, suc, ◌+◌, ◌<◌, ◌≤◌}
use native.Mathlib.Numerals.{add-one}
use native.Mathlib.Omega.{arith}
use borrow.Author.Tests.{eqb-true}
use lib.ListN.{length, drop, get_or, set, length-append, length-drop}
use lib.Seq.{drop-cons, drop-drop, get_or-drop, set_at, append_snoc}
use Rattle.text.specs.Lines.{until}
use Rattle.text.specs.Words.{is_space, is_no_space, word, words_behind, words_of, word_at, figure, read_at, and_more, values_of}
use Rattle.text.specs.declared.words.Figure.{Figure}
use Rattle.text.proofs.Places.{passed}

-- ---- the words of a text, one after the other

-- spaces before them
from_next : (text : List ℕ) → words_of text ≡ words_of (drop (until is_no_space text) text)
from_next [] = refl
from_next (b ∷ bs) = go (is_space b) refl (from_next bs)
  where
    go : (s : Bool) → is_space b ≡ s → words_of bs ≡ words_of (drop (until is_no_space bs) bs)
        → cond (true && not s) (word (b ∷ bs) ∷ words_behind b bs) (words_behind b bs)
        ≡ words_of (drop (cond (not s) 0 (suc (until is_no_space bs))) (b ∷ bs))
    go true e i = ap (λ (n : ℕ). words_behind n bs) (eqb-true b 32 e) ∙ i
    go false e i = rw e

-- what is left of a word before them
past_word : (b : ℕ) (text : List ℕ) → is_space b ≡ false → words_behind b text ≡ words_of (drop (length (word text)) text)
past_word b [] e = refl
past_word b (c ∷ cs) e = go (is_space c) refl (past_word c cs)
  where
    go : (s : Bool) → is_space c ≡ s → (is_space c ≡ false → words_behind c cs ≡ words_of (drop (length (word cs)) cs))
        → cond (is_space b && is_no_space c) (word (c ∷ cs) ∷ words_behind c cs) (words_behind c cs)
        ≡ words_of (drop (length (cond s [] (c ∷ word cs))) (c ∷ cs))
    go true f i = rw (e, f)
    go false f i = rw e (i f)

first_word : (b : ℕ) (bs : List ℕ) → is_space b ≡ false → words_of (b ∷ bs) ≡ word (b ∷ bs) ∷ words_of (drop (length (word (b ∷ bs))) (b ∷ bs))
first_word b bs e = rw e (ap (λ (l : List (List ℕ)). (b ∷ word bs) ∷ l) (past_word b bs e))

one_word : (line : List ℕ) (at : ℕ) → at < length line → is_space (get_or line at 0) ≡ false
    → words_of (drop at line) ≡ word (drop at line) ∷ words_of (drop (word_at line (at + length (word (drop at line)))) line)
one_word line at h e =
    first
    ∙ ap (λ (l : List (List ℕ)). word (drop at line) ∷ l)
    (ap words_of (drop-drop (length (word (drop at line))) at line)
    ∙ from_next (drop (at + length (word (drop at line))) line)
    ∙ ap words_of (drop-drop (until is_no_space (drop (at + length (word (drop at line))) line)) (at + length (word (drop at line))) line))
  where
    first : words_of (drop at line) ≡ word (drop at line) ∷ words_of (drop (length (word (drop at line))) (drop at line))
    first = rw (drop-cons line at 0 h) (first_word (get_or line at 0) (drop (suc at) line) e)

-- ---- the loop

-- so many words are read, and their values stand in front
pub record Entering (read : List ℕ → Option ℕ) (line : List ℕ) (from : ℕ) (before : List ℕ) (at count : ℕ) (after : List ℕ) : Type 0 where
  pub done : List ℕ
  pub long : length done ≡ count
  pub room : count ≤ length before
  pub them : after ≡ done ++ drop count before
  pub values : values_of read (words_of (drop from line)) ≡ done ++ values_of read (words_of (drop at line))
  pub many : length (words_of (drop from line)) ≡ count + length (words_of (drop at line))
  pub starts : at < length line → is_space (get_or line at 0) ≡ false

-- a word starts at its place
starts_word : (line : List ℕ) (from : ℕ) → word_at line from < length line → is_space (get_or line (word_at line from) 0) ≡ false
starts_word line from h =
    let k : until is_no_space (drop from line) < length (drop from line) = rw length-drop (omega arith) in
    not_space (is_space (get_or line (word_at line from) 0)) (ap is_no_space (sym (get_or-drop from line (until is_no_space (drop from line)) 0))
    ∙ passed is_no_space (drop from line) k)
  where
    not_space : (s : Bool) → not s ≡ true → s ≡ false
    not_space true e = sym e
    not_space false e = refl

pub none_entered : {read : List ℕ → Option ℕ} {line : List ℕ} {from at : ℕ} {before : List ℕ} → at ≡ word_at line from
    → Entering read line from before at 0 before
none_entered {read} {line} {from} {at} {before} e =
    let w : words_of (drop from line) ≡ words_of (drop at line) = from_next (drop from line)
    ∙ ap words_of (drop-drop (until is_no_space (drop from line)) from line ∙ ap (λ (n : ℕ). drop n line) (sym e)) in
    record {
      done = [];
      long = refl;
      room = omega arith;
      them = refl;
      values = ap (values_of read) w;
      many = ap length w ∙ omega arith;
      starts = rw e (starts_word line from);
    }

-- what a figure says of its word
good_one : {f : Figure} (next : ℕ) (o : Option ℕ) → Some f ≡ figure next o → (o ≡ Some f.value) × (f.next ≡ next)
good_one next None e = absurd (let z : ◌≡◌ {A = ℕ} 0 1 = cc in omega arith)
good_one {f} next (Some n) e =
    let k : f ≡ record { value = n; next = next } = cc in
    (ap (λ (x : Figure). Some x.value) (sym k), ap (λ (x : Figure). x.next) k)

module _ {read : List ℕ → Option ℕ} {line : List ℕ} {from : ℕ} {before : List ℕ} {at count : ℕ} {after : List ℕ}
    (g : Entering read line from before at count after) where
  pub one_entered : {f : Figure} {next : ℕ} → Some f ≡ read_at read line at → next ≡ word_at line f.next → at < length line
      → count < length before
      → Entering read line from before next (count + 1) (set after count f.value)
  one_entered {f} {next} e n h l =
      let o = good_one (at + length (word (drop at line))) (read (word (drop at line))) e in
      let w : words_of (drop at line) ≡ word (drop at line) ∷ words_of (drop next line)
      = one_word line at h (g.starts h) ∙ ap (λ (p : ℕ). word (drop at line) ∷ words_of (drop (word_at line p) line)) (sym o.1)
      ∙ ap (λ (p : ℕ). word (drop at line) ∷ words_of (drop p line)) (sym n) in
      let v : values_of read (words_of (drop at line)) ≡ f.value ∷ values_of read (words_of (drop next line))
      = ap (values_of read) w ∙ ap (λ (x : Option ℕ). and_more x (values_of read (words_of (drop next line)))) o.0 in
      let m : length (words_of (drop at line)) ≡ suc (length (words_of (drop next line))) = ap length w in
      record {
        done = g.done ++ (f.value ∷ []);
        long = length-append g.done (f.value ∷ []) ∙ omega (arith, g.long);
        room = omega arith;
        them =
            ap (λ (x : List ℕ). set x count f.value) (g.them ∙ ap (λ (x : List ℕ). g.done ++ x) (drop-cons before count 0 l))
            ∙ set_at g.done (get_or before count 0) (drop (suc count) before) f.value count g.long
            ∙ sym (append_snoc g.done f.value (drop (suc count) before))
            ∙ ap (λ (i : ℕ). g.done ++ (f.value ∷ []) ++ drop i before) (sym (add-one count));
        values = g.values ∙ ap (λ (x : List ℕ). g.done ++ x) v
            ∙ sym (append_snoc g.done f.value (values_of read (words_of (drop next line))));
        many = omega (arith, g.many, m);
        starts = rw n (starts_word line f.next);
      }
