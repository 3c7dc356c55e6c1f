-- The steps of the time axis asked one after the other, and which label a mark has. Assumes nothing.
use mathlib.Core.Path.{◌≡◌, refl, sym, ap, ap₂, subst, ◌∙◌}
use mathlib.Core.Bool.{Bool, true, false, cond}
use mathlib.Core.List.{List, [], ◌∷◌, ◌++◌, append-nil}
use Prim.Native.Nat.{ℕ, ◌+◌, ◌*◌, ◌/◌, ◌%◌, ◌<◌, ◌≤◌}
use native.Mathlib.Numerals.{add-one}
use native.Mathlib.Omega.{arith}
use borrow.Author.Tests.{leb-true, leb-false, le-leb, lt-leb, lt-ltb, le-ltb}
use lib.Dec.{leb}
use lib.ListN.{length, get_or, drop, drop_of_length-le, length-append}
use lib.Seq.{drop-cons}
use Rattle.text.specs.Digits.{digit, decimal_text, Put, Wrote}
use Rattle.text.proofs.Writing.{put_wrote, join_put}
use Rattle.drawing.specs.Marks.{steps, first_reaching, mark_step, is_day}
use Rattle.drawing.specs.Marks.{day_text, seconds_text, minutes_text, clock_text, label_text}

pub steps_long : length steps ≡ 41
unfolding steps
steps_long = refl

-- none of the first i reaches so many ticks
pub record Short (ticks i : ℕ) : Type 0 where
  pub so_far : first_reaching ticks (drop i steps) ≡ mark_step ticks

pub short_none : {ticks : ℕ} → Short ticks 0
unfolding mark_step
short_none = record { so_far = refl }

at_step : (ticks i : ℕ) → i < 41
    → first_reaching ticks (drop i steps)
    ≡ cond (leb ticks (get_or steps i 0 * 80)) (get_or steps i 0) (first_reaching ticks (drop (i + 1) steps))
at_step ticks i h =
    ap (first_reaching ticks) (drop-cons steps i 0 (rw steps_long h))
    ∙ ap (λ (n : ℕ). cond (leb ticks (get_or steps i 0 * 80)) (get_or steps i 0) (first_reaching ticks (drop n steps))) (sym (add-one i))

module _ (ticks i : ℕ) {t : Bool} {s : ℕ} where
  asked : (a : Bool) → i < 41 → s ≡ get_or steps i 0 → t ≡ leb ticks (s * 80) → t ≡ a
      → cond a (get_or steps i 0) (first_reaching ticks (drop (i + 1) steps)) ≡ first_reaching ticks (drop i steps)
  asked a h k e f =
      let test : leb ticks (get_or steps i 0 * 80) ≡ a = ap (λ (n : ℕ). leb ticks (n * 80)) (sym k) ∙ sym e ∙ f in
      sym (at_step ticks i h ∙ ap (λ (b : Bool). cond b (get_or steps i 0) (first_reaching ticks (drop (i + 1) steps))) test)

  pub short_more : Short ticks i → i < 41 → s ≡ get_or steps i 0 → t ≡ leb ticks (s * 80) → t ≡ false → Short ticks (i + 1)
  short_more w h k e f = record { so_far = asked false h k e f ∙ w.so_far }

  pub reached : Short ticks i → i < 41 → s ≡ get_or steps i 0 → t ≡ leb ticks (s * 80) → t ≡ true → s ≡ mark_step ticks
  reached w h k e f = k ∙ asked true h k e f ∙ w.so_far

-- past all of them, the last
pub beyond : {ticks : ℕ} (i s : ℕ) → Short ticks i → 41 ≤ i → s ≡ get_or steps 40 0 → s ≡ mark_step ticks
unfolding steps
beyond {ticks} i s w h k = k ∙ sym (ap (first_reaching ticks) (drop_of_length-le steps {i = i} h)) ∙ w.so_far

-- rounded up, ticks take so many eighties
pub eighties : (step ticks : ℕ) → leb (ticks / 80 + (ticks % 80 + 79) / 80) step ≡ leb ticks (step * 80)
eighties step ticks = go (leb (ticks / 80 + (ticks % 80 + 79) / 80) step) refl
  where
    go : (t : Bool) → leb (ticks / 80 + (ticks % 80 + 79) / 80) step ≡ t → t ≡ leb ticks (step * 80)
    go true e = sym (le-leb ticks (step * 80) (omega (arith, leb-true (ticks / 80 + (ticks % 80 + 79) / 80) step e)))
    go false e = sym (lt-leb ticks (step * 80) (omega (arith, leb-false (ticks / 80 + (ticks % 80 + 79) / 80) step e)))

-- ---- labels

module _ (second step ticks : ℕ) {t : Bool} where
  pub label_day : t ≡ is_day second step ticks → t ≡ true → label_text second step ticks ≡ day_text second
  unfolding label_text
  label_day k e = rw (sym k ∙ e)

  pub label_seconds : t ≡ is_day second step ticks → t ≡ false → step < 60 → label_text second step ticks ≡ seconds_text second
  unfolding label_text
  label_seconds k e s = rw (sym k ∙ e, lt-ltb step 60 s)

  pub label_minutes : t ≡ is_day second step ticks → t ≡ false → 60 ≤ step → ticks ≤ 36000
      → label_text second step ticks ≡ minutes_text second
  unfolding label_text
  label_minutes k e s m = rw (sym k ∙ e, le-ltb step 60 s, le-leb ticks 36000 m)

  pub label_clock : t ≡ is_day second step ticks → t ≡ false → 60 ≤ step → 36000 < ticks
      → label_text second step ticks ≡ clock_text second
  unfolding label_text
  label_clock k e s m = rw (sym k ∙ e, le-ltb step 60 s, lt-leb ticks 36000 m)

-- a number between two texts
pub around_wrote : {l₀ l₁ l₂ l₃ : List ℕ} {at p₁ p₂ p₃ : ℕ} (before : List ℕ) (n : ℕ) (behind : List ℕ) → Put l₀ at before p₁ l₁
    → Put l₁ p₁ (decimal_text n) p₂ l₂ → Put l₂ p₂ behind p₃ l₃ → at + (length before + length (decimal_text n) + length behind) ≤ length l₀
    → Wrote l₀ at (before ++ decimal_text n ++ behind) p₃ l₃
around_wrote before n behind first digits last h =
    join_put (join_put (put_wrote first (omega arith)) digits (omega arith)) last (simp length-append (omega arith))

pub around_long : (before : List ℕ) (n : ℕ) (behind : List ℕ)
    → length (before ++ decimal_text n ++ behind) ≡ length before + length (decimal_text n) + length behind
around_long before n behind = simp length-append

module _ {l l' : List ℕ} {at next : ℕ} (second step ticks : ℕ) where
  pub day_put : label_text second step ticks ≡ day_text second
      → Put l at ((68 ∷ 97 ∷ 121 ∷ 32 ∷ []) ++ decimal_text (second / 86400 + 1) ++ []) next l'
      → Put l at (label_text second step ticks) next l'
  day_put e p = rw e (rw append-nil at p)

  pub label_put : {text : List ℕ} → label_text second step ticks ≡ text → Put l at text next l'
      → Put l at (label_text second step ticks) next l'
  label_put e p = rw e p

pub clock_put : {l l' : List ℕ} {at next a b : ℕ} (second : ℕ) → Put l at (decimal_text (second / 3600 % 24) ++ (58 ∷ a ∷ b ∷ [])) next l'
    → a ≡ digit (second / 60 % 60 / 10) → b ≡ digit (second / 60 % 60) → Put l at (clock_text second) next l'
clock_put {l} {l'} {at} {next} second p e f =
    subst (λ (d : List ℕ). Put l at (decimal_text (second / 3600 % 24) ++ (58 ∷ d)) next l') (ap₂ (λ (x y : ℕ). x ∷ y ∷ []) e f) p
