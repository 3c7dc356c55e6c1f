-- The two loops: one notes a tick at one kind after the other, the other looks for a cell from the last down.
-- Assumes nothing.
use mathlib.Core.Bool.{cond}
use mathlib.Core.Path.{◌≡◌, refl, sym, ap, ap₂, ◌∙◌}
use mathlib.Core.List.{List, [], ◌∷◌, ◌++◌, append-nil}
use Prim.Native.Nat.{ℕ, suc, ◌+◌, ◌/◌, ◌%◌, ◌≤◌, ◌<◌}
use native.Mathlib.Numerals.{add-one}
use native.Mathlib.Omega.{arith}
use borrow.Author.Tests.{eq-eqb, ne_eqb}
use lib.Dec.{eqb}
use lib.ListN.{length, take, drop, get_or, set, length-set, drop_of_length-le}
use lib.Seq.{drop-cons, take-suc-set, drop-set-lt, append_snoc, take_all}
use Rattle.spells.specs.declared.Spells.{Spells}
use Rattle.spells.specs.Spells.{with_tick}
use Rattle.story.specs.Story.{noted_of, first_after}

-- i kinds are noted, and the rest of the bits is that of the others
pub record Noting (came : List Spells) (bits tick : ℕ) (all : List Spells) (rest i : ℕ) : Type 0 where
  pub same : length all ≡ length came
  pub so_far : take i all ++ noted_of (drop i all) rest tick ≡ noted_of came bits tick

pub none_noted : {came : List Spells} {bits tick : ℕ} → Noting came bits tick came bits 0
none_noted = record { same = refl; so_far = refl }

pub one_noted : {came all : List Spells} {bits tick rest i : ℕ} {s : Spells} (d : Spells) → Noting came bits tick all rest i
    → i < length came
    → s ≡ with_tick (get_or all i d) (eqb (rest % 2) 1) tick
    → Noting came bits tick (set all i s) (rest / 2) (i + 1)
unfolding noted_of
one_noted {came} {all} {bits} {tick} {rest} {i} {s} d n h q =
    let same = n.same in
    let l : i < length all = omega arith in
    record {
      same = length-set all i s ∙ n.same;
      so_far =
          ap (λ (k : ℕ). take k (set all i s) ++ noted_of (drop k (set all i s)) (rest / 2) tick) (add-one i)
          ∙ ap₂ (λ (a b : List Spells). a ++ noted_of b (rest / 2) tick) (take-suc-set all i s l) (drop-set-lt (suc i) all i s (omega arith))
          ∙ append_snoc (take i all) s (noted_of (drop (suc i) all) (rest / 2) tick)
          ∙ ap (λ (x : Spells). take i all ++ x ∷ noted_of (drop (suc i) all) (rest / 2) tick) q
          ∙ ap (λ (x : List Spells). take i all ++ noted_of x rest tick) (sym (drop-cons all i d l))
          ∙ n.so_far;
    }

pub all_noted : {came all : List Spells} {bits tick rest i : ℕ} → Noting came bits tick all rest i → length came ≤ i
    → all ≡ noted_of came bits tick
unfolding noted_of
all_noted {came} {all} {bits} {tick} {rest} {i} n h =
    let same = n.same in
    let l : length all ≤ i = omega arith in
    sym (append-nil all)
    ∙ ap₂ (λ (a b : List Spells). a ++ noted_of b rest tick) (sym (take_all i all l)) (sym (none all i l))
    ∙ n.so_far
  where
    none : (l : List Spells) (k : ℕ) → length l ≤ k → drop k l ≡ []
    none l k h = drop_of_length-le l h

-- the first of the cells that has a value: the place of a cell, its number less one, and what is asked of those from it on
module _ (cells : List ℕ) (value i : ℕ) where
  at_place : i < length cells
      → first_after i value (drop i cells)
      ≡ cond (eqb (get_or cells i 0) value) (suc i) (first_after (suc i) value (drop (suc i) cells))
  unfolding first_after
  at_place h = ap (first_after i value) (drop-cons cells i 0 h)

  pub first_here : i < length cells → get_or cells i 0 ≡ value → i + 1 ≡ first_after i value (drop i cells)
  first_here h e = add-one i ∙ sym (at_place h ∙ rw (eq-eqb (get_or cells i 0) value e))

  pub first_later : i < length cells → (get_or cells i 0 ≡ value → ⊥)
      → first_after (i + 1) value (drop (i + 1) cells) ≡ first_after i value (drop i cells)
  first_later h e = rw add-one (sym (at_place h ∙ rw (ne_eqb (get_or cells i 0) value e)))

  pub first_nowhere : length cells ≤ i → 0 ≡ first_after i value (drop i cells)
  unfolding first_after
  first_nowhere h = sym (ap (first_after i value) (drop_of_length-le cells {i = i} h))
