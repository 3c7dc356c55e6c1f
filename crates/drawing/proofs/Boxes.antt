-- The parts of a run's box in a row, how long it is, and runs one column longer. Assumes nothing.
use mathlib.Core.Path.{◌≡◌, sym, ap, subst, ◌∙◌}
use mathlib.Core.Bool.{Bool, true, false}
use mathlib.Core.List.{List, [], ◌∷◌, ◌++◌}
use Prim.Native.Nat.{ℕ, ◌+◌, ◌-◌, ◌*◌, ◌≤◌}
use native.Mathlib.Nat.{zero-div}
use native.Mathlib.Numerals.{add-one}
use native.Mathlib.Omega.{arith}
use borrow.Author.Tests.{eq-eqb, ne_eqb}
use lib.ListN.{length, get_or, length-append, get_or-eq_default}
use Rattle.text.specs.Digits.{decimal_text, Put, Wrote}
use Rattle.text.proofs.Writing.{none, join, join_put, same_long}
use Rattle.drawing.specs.Paths.{part_text, is_set, run_to, ending_run, box_text, run_text, run_at}

-- ---- a box

box_long : (from count height : ℕ)
    → length (box_text from count height) ≡ 8 + length (decimal_text from) + 2 * length (decimal_text count) + length (decimal_text height)
unfolding box_text
box_long from count height = simp length-append (omega arith)

box_wrote : {l₀ l₁ l₂ l₃ l₄ l₅ l₆ l₇ : List ℕ} {at p₁ p₂ p₃ p₄ p₅ p₆ p₇ : ℕ} (from count height : ℕ) → Wrote l₀ at (part_text 77 from) p₁ l₁
    → Put l₁ p₁ (32 ∷ 48 ∷ 104 ∷ []) p₂ l₂ → Put l₂ p₂ (decimal_text count) p₃ l₃ → Wrote l₃ p₃ (part_text 118 height) p₄ l₄
    → Put l₄ p₄ (104 ∷ 45 ∷ []) p₅ l₅ → Put l₅ p₅ (decimal_text count) p₆ l₆ → Put l₆ p₆ (122 ∷ []) p₇ l₇
    → at + length (box_text from count height) ≤ length l₀ → Wrote l₀ at (box_text from count height) p₇ l₇
unfolding box_text
box_wrote from count height m wide number high back again end h =
    let long = box_long from count height in
    let a = join_put m wide (omega arith) in
    let b = join_put a number (simp length-append (omega arith)) in
    let c = join b high in
    let d = join_put c back (simp length-append (omega arith)) in
    let e = join_put d again (simp length-append (omega arith)) in
    join_put e end (simp length-append (omega arith))

-- ---- of a run; none of a run of no columns

no_run : (height i count : ℕ) → count ≡ 0 → run_text height i count ≡ []
unfolding run_text
no_run height i count e = rw (eq-eqb count 0 e)

some_run : (height i count : ℕ) → (count ≡ 0 → ⊥) → run_text height i count ≡ box_text (i + 1 - count) count height
unfolding run_text
some_run height i count e = rw (ne_eqb count 0 e)

pub no_run_long : (height i count : ℕ) → count ≡ 0 → 0 ≡ length (run_text height i count)
no_run_long height i count e = sym (ap length (no_run height i count e))

pub run_long : (height i count : ℕ) → (count ≡ 0 → ⊥)
    → length (run_text height i count)
    ≡ 8 + length (decimal_text (i + 1 - count)) + 2 * length (decimal_text count) + length (decimal_text height)
run_long height i count e = ap length (some_run height i count e) ∙ box_long (i + 1 - count) count height

pub no_run_wrote : {l : List ℕ} {at : ℕ} (height i count : ℕ) → count ≡ 0 → Wrote l at (run_text height i count) at l
no_run_wrote height i count e = rw (no_run height i count e) none

pub run_wrote : {l₀ l₁ l₂ l₃ l₄ l₅ l₆ l₇ : List ℕ} {at p₁ p₂ p₃ p₄ p₅ p₆ p₇ : ℕ} (height i count : ℕ)
    → Wrote l₀ at (part_text 77 (i + 1 - count)) p₁ l₁
    → Put l₁ p₁ (32 ∷ 48 ∷ 104 ∷ []) p₂ l₂ → Put l₂ p₂ (decimal_text count) p₃ l₃ → Wrote l₃ p₃ (part_text 118 height) p₄ l₄
    → Put l₄ p₄ (104 ∷ 45 ∷ []) p₅ l₅ → Put l₅ p₅ (decimal_text count) p₆ l₆ → Put l₆ p₆ (122 ∷ []) p₇ l₇ → (count ≡ 0 → ⊥)
    → at + length (run_text height i count) ≤ length l₀ → Wrote l₀ at (run_text height i count) p₇ l₇
run_wrote height i count m wide number high back again end e h =
    rw (some_run height i count e)
    (box_wrote (i + 1 - count) count height m wide number high back again end (rw (some_run height i count e) at h))

-- where the run's width is written there is room for the height
pub run_room : {l₀ l₁ l₂ l₃ : List ℕ} {at p₁ p₂ p₃ : ℕ} (height i count : ℕ) → Wrote l₀ at (part_text 77 (i + 1 - count)) p₁ l₁
    → Put l₁ p₁ (32 ∷ 48 ∷ 104 ∷ []) p₂ l₂ → Put l₂ p₂ (decimal_text count) p₃ l₃ → (count ≡ 0 → ⊥)
    → at + length (run_text height i count) ≤ length l₀ → p₃ + length (part_text 118 height) ≤ length l₃
run_room height i count m wide number e h =
    let long = run_long height i count e in
    let a = join_put m wide (omega arith) in
    let a_long = length-append (part_text 77 (i + 1 - count)) (32 ∷ 48 ∷ 104 ∷ []) in
    let b = join_put a number (omega arith) in
    let b_long = length-append (part_text 77 (i + 1 - count) ++ (32 ∷ 48 ∷ 104 ∷ [])) (decimal_text count) in
    omega (arith, b.place, same_long b)

-- ---- one column more

module _ (of : ℕ) (bits : List ℕ) (i : ℕ) {t : Bool} where
  pub run_on : t ≡ is_set of (get_or bits i 0) → t ≡ true → run_to of bits (i + 1) ≡ run_to of bits i + 1
  run_on k e = rw (add-one, sym k ∙ e) (sym (add-one (run_to of bits i)))

  pub run_off : t ≡ is_set of (get_or bits i 0) → t ≡ false → run_to of bits (i + 1) ≡ 0
  run_off k e = rw (add-one, sym k ∙ e)

  pub not_ended : t ≡ is_set of (get_or bits (i + 1) 0) → t ≡ true → ending_run of bits i ≡ 0
  not_ended k e = rw (sym k ∙ e)

  pub ends : t ≡ is_set of (get_or bits (i + 1) 0) → t ≡ false → ending_run of bits i ≡ run_to of bits (i + 1)
  ends k e = rw (sym k ∙ e)

-- the last column of all ends a run, if it is set
pub ends_last : (of : ℕ) (bits : List ℕ) (i : ℕ) → length bits ≤ i + 1 → ending_run of bits i ≡ run_to of bits (i + 1)
ends_last of bits i h = rw (get_or-eq_default bits 0 h, zero-div)

pub run_at_wrote : {l l' : List ℕ} {at next count : ℕ} (of : ℕ) (bits : List ℕ) (height i : ℕ) → Wrote l at (run_text height i count) next l'
    → count ≡ ending_run of bits i → Wrote l at (run_at of bits height i) next l'
run_at_wrote {l} {l'} {at} {next} of bits height i w e = subst (λ (n : ℕ). Wrote l at (run_text height i n) next l') e w
