-- Texts are written one behind the other into a room of their own, and put from there. Assumes nothing.
use mathlib.Core.Path.{◌≡◌, refl, sym, ap, ◌∙◌, subst}
use mathlib.Core.Bool.{Bool, true, false, cond, not, ◌&&◌}
use mathlib.Core.List.{List, [], ◌∷◌, ◌++◌}
use Prim.Native.Nat.{ℕ, suc, ◌+◌, ◌-◌, ◌/◌, ◌%◌, ◌^◌, ◌<◌, ◌≤◌, min}
use native.Mathlib.Numerals.{add-one}
use native.Mathlib.Omega.{arith}
use borrow.Author.Tests.{ltb-true, ltb-false, eqb-true, eqb-false, eq-eqb, ne_eqb}
use lib.Dec.{eqb, ltb}
use lib.ListN.{length, take, drop, get_or, length-append, length-drop, drop_of_length-le}
use lib.Seq.{sets, sets-eq, take-append_seam, take_all, drop-cons}
use Rattle.text.specs.Digits.{digit, decimal_text, Wrote, Put}
use Rattle.text.proofs.Decimal.{twenty}
use Rattle.text.proofs.Writing.{none, join, put_wrote, same_long}
use Rattle.figures.specs.Figures.{comma_text, grouped_text, count_text, whole_text, last_digits, decimals_text, minus_text, figure_text}
use Rattle.figures.specs.Figures.{clock_text}

-- ---- a room of its own

-- the front of a room is what was written there
pub taken : {l l' text : List ℕ} {n : ℕ} → Wrote l 0 text n l' → n ≤ length l → take n l' ≡ text
taken {l} {l'} {text} {n} w h =
    let e : 0 + length text ≤ length l = omega (arith, w.place) in
    let p : n ≡ length text = omega (arith, w.place) in
    rw (p, w.bytes, sets-eq text l 0 e) (take-append_seam text (drop (0 + length text) l))

pub put_taken : {l l' o o' text : List ℕ} {at n r : ℕ} → Wrote l 0 text n l' → n ≤ length l → Put o at (take n l') r o'
    → Put o at text r o'
put_taken {o = o} {o'} {at = at} {r = r} w h p = subst (λ (text : List ℕ). Put o at text r o') (taken w h) p

-- ---- one text behind another

-- the last of them, where all have room
pub ended : {l₀ l₁ l₂ xs ys : List ℕ} {at p₁ p₂ : ℕ} (most : ℕ) → Wrote l₀ at xs p₁ l₁ → Put l₁ p₁ ys p₂ l₂ → p₁ + length ys ≤ most
    → most ≤ length l₀ → (Wrote l₀ at (xs ++ ys) p₂ l₂) × (p₂ ≤ most)
ended {l₁ = l₁} {ys = ys} {p₁ = p₁} most v p h k =
    let same = same_long v in
    let w = put_wrote p (omega arith) in
    (join v w, omega (arith, w.place))

-- ---- one of two texts

pub first : {l l' xs : List ℕ} {at r : ℕ} (t : Bool) (ys : List ℕ) → Wrote l at xs r l' → t ≡ true → Wrote l at (cond t xs ys) r l'
first t ys w e = rw e w

pub other : {l l' ys : List ℕ} {at r : ℕ} (t : Bool) (xs : List ℕ) → Wrote l at ys r l' → t ≡ false → Wrote l at (cond t xs ys) r l'
other t xs w e = rw e w

-- ---- commas

comma_long : (left : ℕ) → length (comma_text left) + (left - 1) / 3 ≡ left / 3
comma_long left = go (ltb 0 left) (eqb (left % 3) 0) refl refl
  where
    go : (s t : Bool) → ltb 0 left ≡ s → eqb (left % 3) 0 ≡ t → length {A = ℕ} (cond (s && t) (44 ∷ []) []) + (left - 1) / 3 ≡ left / 3
    go true true e f = omega (arith, ltb-true, eqb-true)
    go true false e f = let g = eqb-false (left % 3) 0 f in omega (arith, ltb-true)
    go false t e f = omega (arith, ltb-false)

-- a comma for each three digits but the first ones
grouped_long : (ds : List ℕ) → length (grouped_text ds) ≡ length ds + (length ds - 1) / 3
grouped_long [] = refl
grouped_long (d ∷ ds) =
    let e = grouped_long ds in
    let f = comma_long (length ds) in
    ap suc (length-append (comma_text (length ds)) (grouped_text ds)) ∙ omega arith

pub count_long : (n : ℕ) → n < 2 ^ 64 → length (count_text n) ≤ 26
count_long n h = let e = twenty n h in omega (arith, grouped_long (decimal_text n))

pub comma_put : {l l' : List ℕ} {at r : ℕ} (t : Bool) → Put l at (44 ∷ []) r l' → t ≡ true
    → at + length {A = ℕ} (cond t (44 ∷ []) []) ≤ length l → Wrote l at (cond t (44 ∷ []) []) r l'
comma_put t p e h = first t [] (put_wrote p (rw e at h)) e

-- once the digits that are left are written too, with their commas, all are
pub record Grouping (before : List ℕ) (at : ℕ) (ds : List ℕ) (i next : ℕ) (now : List ℕ) : Type 0 where
  pub all : sets now next (grouped_text (drop i ds)) ≡ sets before at (grouped_text ds)
  pub ends : next + length (grouped_text (drop i ds)) ≡ at + length (grouped_text ds)

pub begun : {l : List ℕ} {at : ℕ} {ds : List ℕ} → Grouping l at ds 0 at l
begun = record { all = refl; ends = refl }

behind : {l₀ l₁ xs : List ℕ} {at p : ℕ} (ys : List ℕ) → Wrote l₀ at xs p l₁ → sets l₁ p ys ≡ sets l₀ at (xs ++ ys)
behind {l₁ = l₁} {p = p} ys w =
    let rest : Wrote l₁ p ys (p + length ys) (sets l₁ p ys) = record { place = refl; bytes = refl } in
    (join w rest).bytes

-- one digit, the comma behind it, and the rest
split : (ds : List ℕ) (i : ℕ) → i < length ds
    → grouped_text (drop i ds) ≡ (get_or ds i 0 ∷ comma_text (length ds - (i + 1))) ++ grouped_text (drop (i + 1) ds)
split ds i h =
    let e : length (drop (i + 1) ds) ≡ length ds - (i + 1) = length-drop (i + 1) ds in
    rw (← e, add-one i) (ap grouped_text (drop-cons ds i 0 h))

pub split_long : (ds : List ℕ) (i : ℕ) → i < length ds
    → length (grouped_text (drop i ds)) ≡ 1 + length (comma_text (length ds - (i + 1))) + length (grouped_text (drop (i + 1) ds))
split_long ds i h =
    ap length (split ds i h)
    ∙ length-append (get_or ds i 0 ∷ comma_text (length ds - (i + 1))) (grouped_text (drop (i + 1) ds))
    ∙ omega arith

pub one_more : {before l₀ l₁ l₂ : List ℕ} {at p₀ p₁ p₂ : ℕ} (ds : List ℕ) (i : ℕ) → Grouping before at ds i p₀ l₀
    → Put l₀ p₀ (get_or ds i 0 ∷ []) p₁ l₁ → Wrote l₁ p₁ (comma_text (length ds - (i + 1))) p₂ l₂ → i < length ds → p₀ + 1 ≤ length l₀
    → Grouping before at ds (i + 1) p₂ l₂
one_more {l₀ = l₀} {p₀ = p₀} ds i g p w h k =
    let v = put_wrote p k in
    let long = split_long ds i h in
    record {
      all = behind (grouped_text (drop (i + 1) ds)) (join v w) ∙ ap (sets l₀ p₀) (sym (split ds i h)) ∙ g.all;
      ends = omega (arith, g.ends, v.place, w.place);
    }

pub all_done : {before l : List ℕ} {at p : ℕ} (ds : List ℕ) (i : ℕ) → Grouping before at ds i p l → length ds ≤ i
    → Wrote before at (grouped_text ds) p l
all_done {l = l} {p = p} ds i g h =
    let e : grouped_text (drop i ds) ≡ [] = ap grouped_text (drop_of_length-le ds h) in
    let f : length (grouped_text (drop i ds)) ≡ 0 = ap length e in
    record { place = omega (arith, g.ends); bytes = sym (ap (sets l p) e) ∙ g.all }

-- the digits of a number are in the front of twenty places
pub digits_taken : {l l' : List ℕ} {count : ℕ} (n : ℕ) → Put l 0 (decimal_text n) count l' → n < 2 ^ 64 → length l ≡ 20
    → (take count l' ≡ decimal_text n) × (count ≤ 20)
digits_taken n p h k =
    let long = twenty n h in
    let w = put_wrote p (omega arith) in
    (taken w (omega (arith, w.place)), omega (arith, w.place))

pub count_wrote : {l l' ds : List ℕ} {at r : ℕ} (n : ℕ) → Wrote l at (grouped_text ds) r l' → ds ≡ decimal_text n → n < 2 ^ 64
    → (Wrote l at (count_text n) r l') × (r ≤ at + 26)
count_wrote {l} {l'} {at = at} {r} n w e h =
    let v = subst (λ (ds : List ℕ). Wrote l at (grouped_text ds) r l') e w in
    (v, omega (arith, count_long n h, v.place))

-- ---- decimal places

pub no_places : {l : List ℕ} {at : ℕ} (places n : ℕ) → places ≡ 0 → Wrote l at (decimals_text places n) at l
no_places places n e = first (eqb places 0) _ none (eq-eqb places 0 e)

pub some_places : {l₀ l₁ l₂ : List ℕ} {at p₁ p₂ : ℕ} (places n : ℕ) (ds : List ℕ) → Put l₀ at (46 ∷ []) p₁ l₁
    → Put l₁ p₁ (take (4 - (4 - places)) (drop (4 - places) ds)) p₂ l₂ → ds ≡ last_digits n → (places ≡ 0 → ⊥) → places ≤ 4
    → at + 5 ≤ length l₀ → (Wrote l₀ at (decimals_text places n) p₂ l₂) × (p₂ ≤ at + 5)
some_places {l₁ = l₁} {l₂} {at} {p₁} {p₂} places n ds p q e z m h =
    let v = put_wrote p (omega arith) in
    let long : length (drop (4 - places) (last_digits n)) ≡ 4 - (4 - places) = length-drop (4 - places) (last_digits n) in
    let same : take (4 - (4 - places)) (drop (4 - places) ds) ≡ drop (4 - places) (last_digits n)
    = ap (λ (l : List ℕ). take (4 - (4 - places)) (drop (4 - places) l)) e
    ∙ take_all (4 - (4 - places)) (drop (4 - places) (last_digits n)) (omega arith) in
    let q' = subst (λ (text : List ℕ). Put l₁ p₁ text p₂ l₂) same q in
    let all = ended (at + 5) v q' (omega (arith, v.place)) h in
    (other (eqb places 0) [] all.0 (ne_eqb places 0 z), all.1)

pub figure_wrote : {l₀ l₁ l₂ l₃ : List ℕ} {at p₁ p₂ p₃ : ℕ} (commas negative : Bool) (size places held ten : ℕ)
    → Wrote l₀ at (minus_text (negative && not (eqb size 0))) p₁ l₁ → Wrote l₁ p₁ (whole_text commas (size / ten)) p₂ l₂
    → Wrote l₂ p₂ (decimals_text held size) p₃ l₃ → ten ≡ 10 ^ held → held ≡ min places 4
    → Wrote l₀ at (figure_text commas negative size places) p₃ l₃
figure_wrote {l₀} {l₁} {l₂} {l₃} {at} {p₁} {p₂} {p₃} commas negative size places held ten v w x e f =
    let w' = subst (λ (ten : ℕ). Wrote l₁ p₁ (whole_text commas (size / ten)) p₂ l₂) (e ∙ ap (λ (p : ℕ). 10 ^ p) f) w in
    let x' = subst (λ (p : ℕ). Wrote l₂ p₂ (decimals_text p size) p₃ l₃) f x in
    join (join v w') x'

-- ---- times

pub clock : {a b c d e f g : ℕ} (t : ℕ) → a ≡ digit (t / 36000 % 24 / 10) → b ≡ digit (t / 36000 % 24) → c ≡ digit (t / 600 % 60 / 10)
    → d ≡ digit (t / 600 % 60) → e ≡ digit (t / 10 % 60 / 10) → f ≡ digit (t / 10 % 60) → g ≡ digit t
    → 44 ∷ 32 ∷ a ∷ b ∷ 58 ∷ c ∷ d ∷ 58 ∷ e ∷ f ∷ 46 ∷ g ∷ [] ≡ clock_text t
clock t p q r s u v w = rw (p, q, r, s, u, v, w)

pub time_wrote : {l₀ l₁ l₂ l₃ day clock : List ℕ} {p₁ p₂ p₃ : ℕ} (t n : ℕ) → Put l₀ 0 day p₁ l₁
    → (Wrote l₁ p₁ (count_text n) p₂ l₂) × (p₂ ≤ p₁ + 26) → Put l₂ p₂ clock p₃ l₃ → clock ≡ clock_text t → length day ≡ 5
    → 192 ≤ length l₀ → (Wrote l₀ 0 (day ++ count_text n ++ clock_text t) p₃ l₃) × (p₃ ≤ 192)
time_wrote {l₂ = l₂} {l₃} {p₂ = p₂} {p₃} t n day count clock e k h =
    let v = put_wrote day (omega arith) in
    let x = subst (λ (text : List ℕ). Put l₂ p₂ text p₃ l₃) e clock in
    ended 192 (join v count.0) x (omega (arith, v.place, count.1)) h
