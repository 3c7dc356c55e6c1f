-- What the definitions come to, for every value: no more than eight marks, nothing clipped, and runs that are the longest.
-- Assumes nothing.
use mathlib.Core.Path.{◌≡◌, refl, ap, ap₂, ◌∙◌}
use mathlib.Core.Bool.{Bool, true, false, cond}
use mathlib.Core.List.{List, [], ◌∷◌}
use Prim.Native.Nat.{ℕ, zero, suc, ◌+◌, ◌-◌, ◌*◌, ◌^◌, ◌/◌, ◌<◌, ◌≤◌, min, max}
use native.Mathlib.Nat.{mul-le-mul_right, div-le_self}
use native.Mathlib.Numerals.{add-one}
use native.Mathlib.Omega.{arith}
use borrow.Author.Tests.{leb-true, ltb-true, ltb-false}
use lib.Dec.{leb, ltb}
use lib.ListN.{get_or}
use Rattle.columns.specs.declared.Band.{Band}
use Rattle.drawing.specs.declared.heights.Scale.{Scale}
use Rattle.drawing.specs.Heights.{most_whole, whole_of, share_of, low_of, high_of, pad_of, scale_of, open_scale_of, place_of}
use Rattle.drawing.specs.Paths.{is_set, run_to, ending_run}
use Rattle.drawing.specs.Marks.{last_step, steps, first_reaching, mark_step}
use Rattle.drawing.proofs.Scaling.{share_most}

-- ---- at most eight marks 0, step, .. within the ticks

reaches_all : (ticks : ℕ) (ss : List ℕ) → ticks ≤ last_step * 80 → ticks ≤ first_reaching ticks ss * 80
reaches_all ticks [] h = h
reaches_all ticks (s ∷ ss) h = go (leb ticks (s * 80)) refl (reaches_all ticks ss h)
  where
    go : (t : Bool) → leb ticks (s * 80) ≡ t → ticks ≤ first_reaching ticks ss * 80 → ticks ≤ cond t s (first_reaching ticks ss) * 80
    go true e more = leb-true ticks (s * 80) e
    go false e more = more

pub eight_marks : (ticks k : ℕ) → ticks ≤ 2 ^ 46 → 10 * (k * mark_step ticks) < ticks → k < 8
unfolding mark_step
eight_marks ticks k h m = go (ltb k 8) refl
  where
    go : (t : Bool) → ltb k 8 ≡ t → k < 8
    go true e = ltb-true k 8 e
    go false e =
        absurd (omega (arith, reaches_all ticks steps (omega arith), mul-le-mul_right (first_reaching ticks steps) (ltb-false k 8 e)))

-- ---- a place is never past the height; of readings of 32 bits nothing is held, so nothing is clipped

pub within : (scale : Scale) (value : ℕ) → place_of scale value ≤ 1000
unfolding share_of
within scale value =
    share_most {all = whole_of scale.span} {held = min (scale.high - value) (whole_of scale.span)} 1000 (omega arith)

plain : (part whole parts : ℕ) → part ≤ whole → 0 < whole → whole ≤ most_whole → share_of part whole parts ≡ part * parts / whole
unfolding share_of
plain part whole parts h k l =
    let w : whole_of whole ≡ whole = omega arith in
    let p : min part (whole_of whole) ≡ part = omega arith in
    ap₂ (λ (a b : ℕ). a * parts / b) p w

pub unclipped : (limits readings : Band) (height value : ℕ) → high_of limits readings < 2 ^ 32 → low_of limits readings ≤ value
    → place_of (scale_of limits readings height) value
    ≡ (high_of limits readings + pad_of limits readings height - value) * 1000
    / (high_of limits readings - low_of limits readings + 2 * pad_of limits readings height)
unfolding scale_of
unclipped limits readings height value h k =
    let pad = div-le_self ((high_of limits readings - low_of limits readings) * 14) (max 29 height - 28) in
    plain (high_of limits readings + pad_of limits readings height - value)
    (high_of limits readings - low_of limits readings + 2 * pad_of limits readings height) 1000 (omega arith) (omega arith) (omega arith)

pub open_unclipped : (highest least value : ℕ) → max least highest < 2 ^ 32 → 0 < max least highest
    → place_of (open_scale_of highest least) value ≡ (max least highest - value) * 1000 / max least highest
unfolding open_scale_of
open_unclipped highest least value h k = plain (max least highest - value) (max least highest) 1000 (omega arith) k (omega arith)

-- ---- a run: all its columns are set, and neither the one before it nor the one behind it is

module _ (of : ℕ) (bits : List ℕ) where
  pub record Run (end count : ℕ) : Type 0 where
    pub room : count ≤ end
    pub set : (j : ℕ) → end - count ≤ j → j < end → is_set of (get_or bits j 0) ≡ true
    pub first : (j : ℕ) → j + 1 + count ≡ end → is_set of (get_or bits j 0) ≡ false

  run : (end : ℕ) → Run end (run_to of bits end)
  run zero = record { room = omega arith; set = λ j h k. absurd (omega arith); first = λ j h. absurd (omega arith) }
  run (suc i) = go (is_set of (get_or bits i 0)) refl (run i)
    where
      same : (j : ℕ) → j ≡ i → is_set of (get_or bits j 0) ≡ is_set of (get_or bits i 0)
      same j e = ap (λ (n : ℕ). is_set of (get_or bits n 0)) e

      go : (t : Bool) → is_set of (get_or bits i 0) ≡ t → Run i (run_to of bits i) → Run (suc i) (cond t (suc (run_to of bits i)) 0)
      go true e r =
          record {
            room = omega (arith, r.room);
            set = λ j h k. later j h k (ltb j i) refl;
            first = λ j h. r.first j (omega arith);
          }
        where
          later : (j : ℕ) → suc i - suc (run_to of bits i) ≤ j → j < suc i → (t : Bool) → ltb j i ≡ t → is_set of (get_or bits j 0) ≡ true
          later j h k true f = r.set j (omega arith) (ltb-true j i f)
          later j h k false f = same j (omega (arith, ltb-false j i f)) ∙ e
      go false e r =
          record {
            room = omega arith;
            set = λ j h k. absurd (omega arith);
            first = λ j h. same j (omega arith) ∙ e;
          }

  -- where a run ends with column i, it is the longest
  pub longest : (i : ℕ) → 0 < ending_run of bits i → Run (i + 1) (ending_run of bits i) × (is_set of (get_or bits (i + 1) 0) ≡ false)
  longest i = go (is_set of (get_or bits (i + 1) 0)) refl
    where
      go : (t : Bool) → is_set of (get_or bits (i + 1) 0) ≡ t → 0 < cond t 0 (run_to of bits (i + 1))
          → Run (i + 1) (cond t 0 (run_to of bits (i + 1))) × (is_set of (get_or bits (i + 1) 0) ≡ false)
      go true e h = absurd (omega arith)
      go false e h = (run (i + 1), e)

  -- and one ends with each column that is set where the next one is not
  pub ended : (i : ℕ) → is_set of (get_or bits i 0) ≡ true → is_set of (get_or bits (i + 1) 0) ≡ false → 0 < ending_run of bits i
  ended i e f = rw (f, add-one, e) (omega arith)
