-- The word that stands at a place: how long it is, and that it is the one that is looked for. Assumes nothing.
use mathlib.Core.Path.{◌≡◌, refl, ap, ◌∙◌}
use mathlib.Core.Bool.{Bool, true, false, cond, ◌||◌}
use mathlib.Core.List.{List, [], ◌∷◌}
use Prim.Native.Nat.{ℕ, suc, ◌+◌, ◌<◌, ◌≤◌}
use native.Mathlib.Omega.{arith}
use borrow.Author.Tests.{eq-eqb, eqb-true, ne_eqb}
use lib.Dec.{eqb}
use lib.ListN.{length, drop, get_or, drop_of_length-le}
use lib.Seq.{drop-cons}
use Rattle.std.specs.Prelude.{Some, None}
use Rattle.text.specs.Lines.{until}
use Rattle.text.specs.Words.{is_space, word, stands, place_after}

-- a word goes up to the first space
pub word_long : (text : List ℕ) → length (word text) ≡ until is_space text
word_long [] = refl
word_long (b ∷ bs) = go (is_space b) (word_long bs)
  where
    go : (s : Bool) → length (word bs) ≡ until is_space bs → length (cond s [] (b ∷ word bs)) ≡ cond s 0 (suc (until is_space bs))
    go true e = refl
    go false e = ap suc e

-- ---- the word that is looked for

abbrev pub has_space : List ℕ → Bool
has_space [] = false
has_space (b ∷ bs) = is_space b || has_space bs

no_first : (b : ℕ) (bs : List ℕ) → has_space (b ∷ bs) ≡ false → (is_space b ≡ false) × (has_space bs ≡ false)
no_first b bs e = go (is_space b) refl e
  where
    go : (s : Bool) → is_space b ≡ s → (s || has_space bs) ≡ false → (is_space b ≡ false) × (has_space bs ≡ false)
    go true f g = absurd (let z : ◌≡◌ {A = ℕ} 0 1 = cc in omega arith)
    go false f g = (f, g)

-- a word stands at the start of a text, whole, just if it is the text's word
pub its_word : (name text : List ℕ) → has_space name ≡ false → word text ≡ name → stands name text ≡ true
its_word [] [] e f = refl
its_word [] (b ∷ bs) e f = go (is_space b) f
  where
    go : (s : Bool) → cond s [] (b ∷ word bs) ≡ [] → s ≡ true
    go true f = refl
    go false f = absurd (omega (arith, ap length f))
its_word (w ∷ ws) [] e f = absurd (omega (arith, ap length f))
its_word (w ∷ ws) (b ∷ bs) e f = go (is_space b) f (its_word ws bs (no_first w ws e).1)
  where
    go : (s : Bool) → cond s [] (b ∷ word bs) ≡ w ∷ ws → (word bs ≡ ws → stands ws bs ≡ true)
        → cond (eqb b w) (stands ws bs) false ≡ true
    go true f more = absurd (omega (arith, ap length f))
    go false f more =
        let h : b ≡ w = cc in
        let t : word bs ≡ ws = cc in
        rw (eq-eqb b w h) (more t)

pub then_its_word : (name text : List ℕ) → has_space name ≡ false → stands name text ≡ true → word text ≡ name
then_its_word [] [] e f = refl
then_its_word [] (b ∷ bs) e f = rw f
then_its_word (w ∷ ws) [] e f = absurd (let z : ◌≡◌ {A = ℕ} 0 1 = cc in omega arith)
then_its_word (w ∷ ws) (b ∷ bs) e f = go (eqb b w) refl f (then_its_word ws bs (no_first w ws e).1)
  where
    go : (t : Bool) → eqb b w ≡ t → cond t (stands ws bs) false ≡ true → (stands ws bs ≡ true → word bs ≡ ws) → word (b ∷ bs) ≡ w ∷ ws
    go true g f more =
        let h : b ≡ w = eqb-true b w g in
        rw (h, (no_first w ws e).0) (ap (λ (l : List ℕ). w ∷ l) (more f))
    go false g f more = absurd (let z : ◌≡◌ {A = ℕ} 0 1 = cc in omega arith)

-- so the place after it is where the text's word ends
pub found : (name line : List ℕ) (from : ℕ) → has_space name ≡ false → word (drop from line) ≡ name
    → place_after name line from ≡ Some (from + length (word (drop from line)))
found name line from e f = rw (its_word name (drop from line) e f, f)

pub not_found : (name line : List ℕ) (from : ℕ) → has_space name ≡ false → (word (drop from line) ≡ name → ⊥) → place_after name line from ≡ None
not_found name line from e f = go (stands name (drop from line)) refl
  where
    go : (t : Bool) → stands name (drop from line) ≡ t → place_after name line from ≡ None
    go true g = absurd (f (then_its_word name (drop from line) e g))
    go false g = rw g

-- ---- and where it is compared byte by byte

-- i bytes are the same
pub record Same (name line : List ℕ) (from i at : ℕ) : Type 0 where
  pub rest : stands name (drop from line) ≡ stands (drop i name) (drop at line)
  pub place : at ≡ from + i

fails : (name line : List ℕ) (from : ℕ) → stands name (drop from line) ≡ false → None ≡ place_after name line from
fails name line from e = rw e

module _ {name line : List ℕ} {from i at : ℕ} (s : Same name line from i at) where
  pub too_short : i < length name → length line ≤ at → None ≡ place_after name line from
  too_short h k =
      let f : stands (drop i name) (drop at line) ≡ false = rw (drop-cons name i 0 h, drop_of_length-le line k) in
      fails name line from (s.rest ∙ f)

  pub differs : i < length name → at < length line → (get_or line at 0 ≡ get_or name i 0 → ⊥) → None ≡ place_after name line from
  differs h k e =
      let f : stands (drop i name) (drop at line) ≡ false
      = rw (drop-cons name i 0 h, drop-cons line at 0 k, ne_eqb (get_or line at 0) (get_or name i 0) e) in
      fails name line from (s.rest ∙ f)
