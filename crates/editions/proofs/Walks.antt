-- Loops over the editions of a store: one that counts up to a value, one that asks each of those behind it, and folds; and the place that
-- they choose. Assumes nothing.
use mathlib.Core.Path.{◌≡◌, refl, sym, ap, ◌∙◌}
use mathlib.Core.Bool.{Bool, true, false, ◌&&◌, ◌||◌, cond, false≢true}
use mathlib.Core.List.{List, [], ◌∷◌}
use Prim.Native.Nat.{ℕ, suc, ◌+◌, ◌<◌, ◌≤◌, min, max}
use native.Mathlib.Nat.{not-suc-le-zero}
use native.Mathlib.Numerals.{add-one}
use native.Mathlib.Omega.{arith, min_cases}
use borrow.Author.Tests.{eq-eqb}
use lib.Dec.{eqb}
use lib.ListN.{length, get_or, drop, drop_of_length-le}
use lib.Seq.{drop-cons}
use Rattle.laws.specs.Fold.{gather}
use Rattle.std.specs.List.{list_any, fold, reduce}
use Rattle.std.specs.Option.{unwrap_or, option_map}
use Rattle.std.proofs.Common.{Option, None, Some, is_some}
use Rattle.laws.specs.History.{any, largest}
use Rattle.laws.proofs.Looking.{Asks}
use Rattle.editions.specs.Editions.{places, nonzero, is_in, place_of, repeated, smallest, place_for, Placed}

-- ---- the place of an edition

-- where an edition is found, as one of all places
abbrev found_in : ℕ → List ℕ → ℕ → Option ℕ
found_in e xs i = cond (is_in e (drop i xs)) (Some (i + place_of e (drop i xs))) None

pub record Before (e : ℕ) (xs : List ℕ) (from i : ℕ) : Type 0 where
  pub so_far : found_in e xs i ≡ found_in e xs from

pub none_before : {e : ℕ} {xs : List ℕ} {from : ℕ} → Before e xs from from
none_before = record { so_far = refl }

here : (e : ℕ) (xs : List ℕ) (i : ℕ) (t : Bool) → i < length xs → eqb e (get_or xs i 0) ≡ t
    → found_in e xs i ≡ cond t (Some i) (found_in e xs (i + 1))
here e xs i t h k =
    rw (drop-cons xs i 0 h, k, add-one i) (go t (is_in e (drop (suc i) xs)) (place_of e (drop (suc i) xs)))
  where
    go : (t s : Bool) (p : ℕ) → cond (cond t true s) (Some (i + cond t 0 (suc p))) None ≡ cond t (Some i) (cond s (Some (suc i + p)) None)
    go true s p = ap Some (omega arith)
    go false true p = ap Some (omega arith)
    go false false p = refl

pub one_before : {e : ℕ} {xs : List ℕ} {from i : ℕ} → Before e xs from i → i < length xs → eqb e (get_or xs i 0) ≡ false
    → Before e xs from (i + 1)
one_before {e} {xs} {from} {i} b h k = record { so_far = sym (here e xs i false h k) ∙ b.so_far }

pub stops_here : {e : ℕ} {xs : List ℕ} {from i : ℕ} → Before e xs from i → i < length xs → eqb e (get_or xs i 0) ≡ true
    → Placed e xs from (Some i)
stops_here {e} {xs} {from} {i} b h k = record { place = sym (here e xs i true h k) ∙ b.so_far }

pub at_the_end : {e : ℕ} {xs : List ℕ} {from i : ℕ} → Before e xs from i → length xs ≤ i → Placed e xs from None
at_the_end {e} {xs} {from} {i} b h =
    record { place = ap (λ (ys : List ℕ). cond (is_in e ys) (Some (i + place_of e ys)) None) (sym (drop_of_length-le xs {i = i} h)) ∙ b.so_far }

-- where it is found its place is one of the places
pub in_place : (e : ℕ) (xs : List ℕ) → is_in e xs ≡ true → place_of e xs < length xs
in_place e [] h = absurd (false≢true h)
in_place e (x ∷ xs) h = go (eqb e x) h (in_place e xs)
  where
    go : (t : Bool) → cond t true (is_in e xs) ≡ true → (is_in e xs ≡ true → place_of e xs < length xs)
        → cond t 0 (suc (place_of e xs)) < suc (length xs)
    go true k i = omega arith
    go false k i = let s = i k in omega arith

-- whether there is one
pub among : {n e : ℕ} {r : Option ℕ} {es : List ℕ} → Placed e es n r → is_some r ≡ is_in e (drop n es)
among {n} {e} {r} {es} q = ap is_some q.place ∙ go (is_in e (drop n es))
  where
    go : (t : Bool) → is_some (cond t (Some (n + place_of e (drop n es))) None) ≡ t
    go true = refl
    go false = refl

-- one that is found from the first place on
pub there : {e p : ℕ} {r : Option ℕ} {es : List ℕ} → Placed e es 0 r → r ≡ Some p → (is_in e es ≡ true) × (p ≡ place_of e es)
there {e} {p} {r} {es} q z =
    let k : is_in e es ≡ true = sym (among q) ∙ ap is_some z in
    let f : Some p ≡ Some (0 + place_of e es) = sym z ∙ q.place ∙ rw k in
    let same : p ≡ 0 + place_of e es = cc in
    (k, omega arith)

pub within : {e p : ℕ} {r : Option ℕ} {es : List ℕ} → Placed e es 0 r → r ≡ Some p → p < length es
within {e} {p} {r} {es} q z = let t = there q z in let k = in_place e es t.0 in omega arith

-- ---- an edition that is there twice

pub repeated_asks : Asks repeated (λ e es. nonzero e && is_in e es)
unfolding repeated
repeated_asks = record { none = refl; more = λ e es. refl }

pub asked : {n e : ℕ} {r : Option ℕ} {es : List ℕ} {t : Bool} → Placed e es n r → t ≡ is_some r
    → (nonzero e && t) ≡ (nonzero e && is_in e (drop n es))
asked {e = e} q k = ap (λ (t : Bool). nonzero e && t) (k ∙ among q)

-- ---- the largest and the smallest

gathered_largest : (a : ℕ) (xs : List ℕ) → gather max a xs ≡ max a (largest xs)
gathered_largest a [] = omega arith
gathered_largest a (x ∷ xs) = gathered_largest (max a x) xs ∙ omega arith

-- the smallest is one of them
least_in : (a : ℕ) (xs : List ℕ) → is_in (gather min a xs) (a ∷ xs) ≡ true
least_in a [] = rw (eq-eqb a a refl)
least_in a (x ∷ xs) =
    min_cases a x _ (λ h e. first (eqb m a) (eqb m x) (is_in m xs) (ap with_first (sym e) ∙ least_in (min a x) xs))
    (λ h e. second (eqb m a) (eqb m x) (is_in m xs) (ap with_first (sym e) ∙ least_in (min a x) xs))
  where
    m : ℕ
    m = gather min (min a x) xs

    with_first : ℕ → Bool
    with_first k = cond (eqb m k) true (is_in m xs)

    first : (s t u : Bool) → cond s true u ≡ true → cond s true (cond t true u) ≡ true
    first true t u e = refl
    first false true u e = refl
    first false false u e = e

    second : (s t u : Bool) → cond t true u ≡ true → cond s true (cond t true u) ≡ true
    second true t u e = refl
    second false t u e = e

pub smallest_in : (es : List ℕ) → 0 < length es → is_in (smallest es) es ≡ true
smallest_in [] h = absurd (not-suc-le-zero h)
smallest_in (e ∷ es) h =
    let k : min e e ≡ e = omega arith in
    ap (λ (n : ℕ). is_in (gather min n es) (e ∷ es)) k ∙ least_in e es

-- ---- the place for a new record

pub place_within : (es : List ℕ) → 0 < length es → place_for es < length es
unfolding place_for
place_within es h = go (is_in 0 es) refl
  where
    go : (t : Bool) → is_in 0 es ≡ t → cond t (place_of 0 es) (place_of (smallest es) es) < length es
    go true e = in_place 0 es e
    go false e = in_place (smallest es) es (smallest_in es h)

chosen : {p : ℕ} (es : List ℕ) → length es ≡ places → Some p ≡ Some (place_for es) → (p ≡ place_for es) × (p < places)
chosen {p} es l e =
    let same : p ≡ place_for es = cc in
    (same, let b = place_within es (omega arith) in omega arith)

pub unused_chosen : {p : ℕ} {es : List ℕ} → length es ≡ places → Placed 0 es 0 (Some p) → (p ≡ place_for es) × (p < places)
unfolding place_for
unused_chosen l q = (let t = there q refl in t.1 ∙ rw t.0, let w = within q refl in omega arith)

-- where none is unused, the smallest is found
pub smallest_there : {r : Option ℕ} {s : ℕ} {es : List ℕ} → length es ≡ places → Placed 0 es 0 None → s ≡ smallest es → Placed s es 0 r
    → r ≡ Some (place_for es)
unfolding place_for
smallest_there {es = es} l q e q₁ =
    let k : is_in 0 es ≡ false = sym (among q) in q₁.place ∙ rw (e, smallest_in es (omega arith), k) (ap Some (omega arith))

pub smallest_chosen : {r : Option ℕ} {s p : ℕ} {es : List ℕ} → length es ≡ places → Placed 0 es 0 None → s ≡ smallest es → Placed s es 0 r
    → r ≡ Some p → (p ≡ place_for es) × (p < places)
smallest_chosen l q e q₁ k = chosen _ l (sym k ∙ smallest_there l q e q₁)

-- ---- is there one?

pub any_is : (p : ℕ → Bool) (xs : List ℕ) → list_any p xs ≡ any p xs
any_is p [] = refl
any_is p (x ∷ xs) = go (p x) (any_is p xs)
  where
    go : (t : Bool) → list_any p xs ≡ any p xs → (t || list_any p xs) ≡ cond t true (any p xs)
    go true e = refl
    go false e = e

-- ---- the largest and the smallest as the library has them

as_gather : (f : ℕ → ℕ → ℕ) (a : ℕ) (xs : List ℕ) → fold f a xs ≡ gather f a xs
as_gather f a [] = refl
as_gather f a (x ∷ xs) = as_gather f (f a x) xs

pub largest_is : (xs : List ℕ) → unwrap_or (reduce max xs) 0 ≡ largest xs
largest_is [] = refl
largest_is (x ∷ xs) = as_gather max x xs ∙ gathered_largest x xs

pub smallest_is : (xs : List ℕ) → unwrap_or (reduce min xs) 0 ≡ smallest xs
smallest_is [] = refl
smallest_is (x ∷ xs) = as_gather min x xs ∙ ap (λ (n : ℕ). gather min n xs) (let k : x ≡ min x x = omega arith in k)

pub unwrapped : (r s : Option ℕ) → option_map (λ x. x) r ≡ s → unwrap_or r 0 ≡ unwrap_or s 0
unwrapped None s e = ap (λ (o : Option ℕ). unwrap_or o 0) e
unwrapped (Some x) s e = ap (λ (o : Option ℕ). unwrap_or o 0) e
