-- One record replaced by one of a larger edition: none is there twice, the new one is found, and every other but the replaced one is found
-- as before; the replaced one is unused, or else has the smallest edition. Assumes nothing.
use mathlib.Core.Path.{◌≡◌, refl, sym, ap, ap₂, ◌∙◌}
use mathlib.Core.Bool.{Bool, true, false, ◌&&◌, cond, and-false, false≢true}
use mathlib.Core.List.{List, [], ◌∷◌, map}
use Prim.Native.Nat.{ℕ, zero, suc, ◌<◌, ◌≤◌}
use native.Mathlib.Nat.{not-suc-le-zero}
use native.Mathlib.Omega.{arith}
use borrow.Author.Tests.{eq-eqb, ne_eqb, eqb-true, eqb-false}
use lib.Dec.{eqb}
use lib.ListN.{length, get_or, set}
use Rattle.laws.specs.History.{any, largest}
use Rattle.laws.proofs.Looking.{none_first, none_after}
use Rattle.editions.specs.Editions.{nonzero, is_in, place_of, record_for, repeated, smallest, place_for}
use Rattle.editions.proofs.Walks.{smallest_in}
use Rattle.editions.proofs.Tidied.{for_cons}

-- ---- one of a list replaced

pub any_set : {A : Type 0} (p : A → Bool) (xs : List A) (i : ℕ) (x : A) → any p xs ≡ false → p x ≡ false → any p (set xs i x) ≡ false
any_set p [] i x h k = refl
any_set p (y ∷ xs) zero x h k = ap₂ (λ (s t : Bool). cond s true t) k (none_after (p y) (any p xs) h)
any_set p (y ∷ xs) (suc i) x h k =
    ap₂ (λ (s t : Bool). cond s true t) (none_first (p y) (any p xs) h) (any_set p xs i x (none_after (p y) (any p xs) h) k)

pub map_set : {A B : Type 0} (f : A → B) (xs : List A) (i : ℕ) (x : A) → map f (set xs i x) ≡ set (map f xs) i (f x)
map_set f [] i x = refl
map_set f (y ∷ xs) zero x = refl
map_set {B = B} f (y ∷ xs) (suc i) x = ap (λ (l : List B). f y ∷ l) (map_set f xs i x)

-- ---- an edition that is larger than all

pub not_in : (e : ℕ) (es : List ℕ) → largest es < e → is_in e es ≡ false
not_in e [] h = refl
not_in e (x ∷ es) h = ap₂ (λ (s t : Bool). cond s true t) (ne_eqb e x (λ q. omega arith)) (not_in e es (omega arith))

pub at_most : (e : ℕ) (es : List ℕ) → is_in e es ≡ true → e ≤ largest es
at_most e [] h = absurd (false≢true h)
at_most e (x ∷ es) h = go (eqb e x) refl h (at_most e es)
  where
    go : (t : Bool) → eqb e x ≡ t → cond t true (is_in e es) ≡ true → (is_in e es ≡ true → e ≤ largest es) → e ≤ largest (x ∷ es)
    go true q k i = let s = eqb-true e x q in omega arith
    go false q k i = let s = i k in omega arith

pub repeated_set : (es : List ℕ) (i e : ℕ) → is_in e es ≡ false → repeated es ≡ false → repeated (set es i e) ≡ false
unfolding repeated
repeated_set [] i e h k = refl
repeated_set (x ∷ es) zero e h k =
    ap₂ (λ (s t : Bool). cond (nonzero e && s) true t) (none_after (eqb e x) (is_in e es) h)
    (none_after (nonzero x && is_in x es) (repeated es) k)
    ∙ ap (λ (t : Bool). cond t true false) (and-false (nonzero e))
repeated_set (x ∷ es) (suc i) e h k =
    ap₂ (λ (s t : Bool). cond s true t) (go (nonzero x) (none_first (nonzero x && is_in x es) (repeated es) k))
    (repeated_set es i e (none_after (eqb e x) (is_in e es) h) (none_after (nonzero x && is_in x es) (repeated es) k))
  where
    other : eqb x e ≡ false
    other = ne_eqb x e (λ q. eqb-false e x (none_first (eqb e x) (is_in e es) h) (sym q))

    go : (t : Bool) → (t && is_in x es) ≡ false → (t && is_in x (set es i e)) ≡ false
    go true m = any_set (eqb x) es i e m other
    go false m = refl

-- it is found where it is put
pub in_set : (es : List ℕ) (i e : ℕ) → i < length es → is_in e (set es i e) ≡ true
in_set [] i e h = absurd (not-suc-le-zero h)
in_set (x ∷ es) zero e h = ap (λ (t : Bool). cond t true (is_in e es)) (eq-eqb e e refl)
in_set (x ∷ es) (suc i) e h = ap (λ (t : Bool). cond (eqb e x) true t) (in_set es i e (omega arith)) ∙ always (eqb e x)
  where
    always : (t : Bool) → cond t true true ≡ true
    always true = refl
    always false = refl

-- every other but the replaced one is found as before
pub in_other : (es : List ℕ) (i e x : ℕ) → eqb e x ≡ false → eqb e (get_or es i 0) ≡ false → is_in e (set es i x) ≡ is_in e es
in_other [] i e x h k = refl
in_other (y ∷ es) zero e x h k = ap (λ (t : Bool). cond t true (is_in e es)) (h ∙ sym k)
in_other (y ∷ es) (suc i) e x h k = ap (λ (t : Bool). cond (eqb e y) true t) (in_other es i e x h k)

module _ {A : Type 0} (z : A) (edition : A → ℕ) where
  pub for_put : (rs : List A) (i e : ℕ) (r : A) → i < length rs → e ≡ edition r → is_in e (map edition rs) ≡ false
      → record_for z edition (set rs i r) e ≡ r
  for_put [] i e r h q k = absurd (not-suc-le-zero h)
  for_put (x ∷ rs) zero e r h q k =
      for_cons edition z e r rs ∙ ap (λ (t : Bool). cond t r (record_for z edition rs e)) (eq-eqb e (edition r) q)
  for_put (x ∷ rs) (suc i) e r h q k =
      for_cons edition z e x (set rs i r)
      ∙ ap (λ (t : Bool). cond t x (record_for z edition (set rs i r) e)) (none_first (eqb e (edition x)) (is_in e (map edition rs)) k)
      ∙ for_put rs i e r (omega arith) q (none_after (eqb e (edition x)) (is_in e (map edition rs)) k)

  pub for_other : (rs : List A) (i e : ℕ) (r : A) → eqb e (edition r) ≡ false → eqb e (edition (get_or rs i z)) ≡ false
      → record_for z edition (set rs i r) e ≡ record_for z edition rs e
  for_other [] i e r h k = refl
  for_other (x ∷ rs) zero e r h k =
      for_cons edition z e r rs
      ∙ ap (λ (t : Bool). cond t r (record_for z edition rs e)) h
      ∙ ap (λ (t : Bool). cond t x (record_for z edition rs e)) (sym k)
      ∙ sym (for_cons edition z e x rs)
  for_other (x ∷ rs) (suc i) e r h k =
      for_cons edition z e x (set rs i r)
      ∙ ap (λ (y : A). cond (eqb e (edition x)) x y) (for_other rs i e r h k)
      ∙ sym (for_cons edition z e x rs)

-- ---- the place that is chosen

at_place : (e : ℕ) (es : List ℕ) → is_in e es ≡ true → get_or es (place_of e es) 0 ≡ e
at_place e [] h = absurd (false≢true h)
at_place e (x ∷ es) h = go (eqb e x) refl h (at_place e es)
  where
    go : (t : Bool) → eqb e x ≡ t → cond t true (is_in e es) ≡ true → (is_in e es ≡ true → get_or es (place_of e es) 0 ≡ e)
        → get_or (x ∷ es) (cond t 0 (suc (place_of e es))) 0 ≡ e
    go true q k i = sym (eqb-true e x q)
    go false q k i = i k

-- an unused one if there is one, else the smallest
pub replaced : (es : List ℕ) → 0 < length es → get_or es (place_for es) 0 ≡ cond (is_in 0 es) 0 (smallest es)
unfolding place_for
replaced es h = go (is_in 0 es) refl
  where
    go : (t : Bool) → is_in 0 es ≡ t → get_or es (cond t (place_of 0 es) (place_of (smallest es) es)) 0 ≡ cond t 0 (smallest es)
    go true e = at_place 0 es e
    go false e = at_place (smallest es) es (smallest_in es h)
