-- A loop that looks for the first byte that passes: what it looks for is the same from each place that it comes to.
-- Assumes nothing.
use mathlib.Core.Path.{◌≡◌, refl, ap, ◌∙◌}
use mathlib.Core.Bool.{Bool, true, false, cond, ◌||◌}
use mathlib.Core.List.{List, [], ◌∷◌, ◌++◌}
use Prim.Native.Nat.{ℕ, zero, suc, ◌+◌, ◌<◌, ◌≤◌}
use native.Mathlib.Nat.{not-suc-le-zero, le_of_suc-le-suc}
use native.Mathlib.Numerals.{add-one}
use native.Mathlib.Omega.{arith}
use lib.ListN.{length, take, drop, get_or, drop_of_length-le, length-drop}
use lib.Seq.{drop-cons, drop-drop, length-take-le}
use Rattle.text.specs.Lines.{until}

pub record Ahead (passes : ℕ → Bool) (xs : List ℕ) (from at : ℕ) : Type 0 where
  pub same : at + until passes (drop at xs) ≡ from + until passes (drop from xs)

module _ {passes : ℕ → Bool} {xs : List ℕ} {from at : ℕ} where
  pub one_on : Ahead passes xs from at → at < length xs → passes (get_or xs at 0) ≡ false → Ahead passes xs from (at + 1)
  one_on a h f =
      let e : until passes (drop at xs) ≡ suc (until passes (drop (suc at) xs)) = rw (drop-cons xs at 0 h, f) in
      record { same = rw add-one (omega (arith, e, a.same)) }

  pub at_first : Ahead passes xs from at → at < length xs → passes (get_or xs at 0) ≡ true → at ≡ from + until passes (drop from xs)
  at_first a h f =
      let e : until passes (drop at xs) ≡ 0 = rw (drop-cons xs at 0 h, f) in
      omega (arith, e, a.same)

  pub at_end : Ahead passes xs from at → length xs ≤ at → at ≡ from + until passes (drop from xs)
  at_end a h =
      let e : until passes (drop at xs) ≡ 0 = rw (drop_of_length-le xs h) in
      omega (arith, e, a.same)

pub here : {passes : ℕ → Bool} {xs : List ℕ} {from : ℕ} → Ahead passes xs from from
here = record { same = refl }

-- several bytes looked at together: none of them passes
pub none_of : (a b : Bool) → (a || b) ≡ false → (a ≡ false) × (b ≡ false)
none_of true b e = (e, wrong e)
  where
    wrong : true ≡ false → b ≡ false
    wrong e = absurd (let z : ◌≡◌ {A = ℕ} 0 1 = cc in omega arith)
none_of false b e = (refl, e)

pub parts : (n : ℕ) (xs : List ℕ) → xs ≡ take n xs ++ drop n xs
parts zero xs = refl
parts (suc n) [] = refl
parts (suc n) (x ∷ xs) = ap (λ (l : List ℕ). x ∷ l) (parts n xs)

pub several_on : {passes : ℕ → Bool} {xs : List ℕ} {from at : ℕ} (n k : ℕ) → Ahead passes xs from at → at + n ≤ length xs → k ≡ n
    → ((rest : List ℕ) → until passes (take k (drop at xs) ++ rest) ≡ length (take k (drop at xs)) + until passes rest)
    → Ahead passes xs from (at + n)
several_on {passes} {xs} {from} {at} n k a h q f =
    let l : length (take k (drop at xs)) ≡ n = length-take-le k (drop at xs) (rw length-drop (omega arith)) ∙ q in
    let e : until passes (drop at xs) ≡ length (take k (drop at xs)) + until passes (drop (at + k) xs)
    = ap (until passes) (parts k (drop at xs)) ∙ f (drop k (drop at xs))
    ∙ ap (λ (m : List ℕ). length (take k (drop at xs)) + until passes m) (drop-drop k at xs) in
    rw (← q) (record { same = omega (arith, e, l, q, a.same) })

-- the first that passes does pass
pub passed : (passes : ℕ → Bool) (xs : List ℕ) → until passes xs < length xs → passes (get_or xs (until passes xs) 0) ≡ true
passed passes [] h = absurd (not-suc-le-zero h)
passed passes (x ∷ xs) h = go (passes x) refl h (passed passes xs)
  where
    go : (t : Bool) → passes x ≡ t → cond t 0 (suc (until passes xs)) < suc (length xs)
        → (until passes xs < length xs → passes (get_or xs (until passes xs) 0) ≡ true)
        → passes (get_or (x ∷ xs) (cond t 0 (suc (until passes xs))) 0) ≡ true
    go true e h i = e
    go false e h i = i (le_of_suc-le-suc h)

pub until_le : (passes : ℕ → Bool) (xs : List ℕ) → until passes xs ≤ length xs
until_le passes [] = omega arith
until_le passes (x ∷ xs) = go (passes x) (until_le passes xs)
  where
    go : (t : Bool) → until passes xs ≤ length xs → cond t 0 (suc (until passes xs)) ≤ suc (length xs)
    go true i = omega arith
    go false i = omega arith
