-- The parts of a band's outline in a row, and how long each is. Assumes nothing.
use mathlib.Core.Path.{◌≡◌, sym, ap, subst, ◌∙◌}
use mathlib.Core.Bool.{Bool, true, false, cond}
use mathlib.Core.List.{List, [], ◌∷◌, ◌++◌}
use Prim.Native.Nat.{ℕ, ◌+◌, ◌-◌, ◌<◌, ◌≤◌}
use native.Mathlib.Omega.{arith}
use borrow.Author.Tests.{eq-eqb, ne_eqb}
use lib.ListN.{length, get_or, length-append}
use Rattle.text.specs.Digits.{decimal_text, Put, Wrote}
use Rattle.text.proofs.Writing.{none, join, put_wrote, join_put, put_nothing}
use Rattle.drawing.specs.Paths.{part_text, corner_text, step_text, edge_at, step_at, side_text, outline, band_text}

pub part_wrote : {l₀ l₁ l₂ : List ℕ} {at p₁ p₂ : ℕ} (letter n : ℕ) → Put l₀ at (letter ∷ []) p₁ l₁ → Put l₁ p₁ (decimal_text n) p₂ l₂
    → at + length (part_text letter n) ≤ length l₀ → Wrote l₀ at (part_text letter n) p₂ l₂
part_wrote letter n one digits h = join_put (put_wrote one (omega arith)) digits (omega arith)

-- ---- a corner

pub corner_long : (i height : ℕ) → length (corner_text i height) ≡ 2 + length (decimal_text i) + length (decimal_text height)
unfolding corner_text
corner_long i height = length-append (part_text 72 i) (part_text 86 height) ∙ omega arith

pub corner_wrote : {l₀ l₁ l₂ : List ℕ} {at p₁ p₂ : ℕ} (i height : ℕ) → Wrote l₀ at (part_text 72 i) p₁ l₁
    → Wrote l₁ p₁ (part_text 86 height) p₂ l₂ → Wrote l₀ at (corner_text i height) p₂ l₂
unfolding corner_text
corner_wrote i height v w = join v w

-- ---- a step: none between equal neighbours

module _ (back : Bool) (heights : List ℕ) (i : ℕ) where
  pub level : {a b : ℕ} → a ≡ get_or heights (i - 1) 0 → b ≡ get_or heights i 0 → a ≡ b → step_text back heights i ≡ []
  unfolding step_text
  level p q e = rw (eq-eqb (get_or heights (i - 1) 0) (get_or heights i 0) (sym p ∙ e ∙ q))

  pub uneven : {a b y : ℕ} → a ≡ get_or heights (i - 1) 0 → b ≡ get_or heights i 0 → y ≡ cond back a b → (a ≡ b → ⊥)
      → step_text back heights i ≡ corner_text i y
  unfolding step_text
  uneven p q k e = rw (ne_eqb (get_or heights (i - 1) 0) (get_or heights i 0) (λ f. e (p ∙ f ∙ sym q)), k, p, q)

  pub level_wrote : {l : List ℕ} {at a b : ℕ} → a ≡ get_or heights (i - 1) 0 → b ≡ get_or heights i 0 → a ≡ b
      → Wrote l at (step_text back heights i) at l
  level_wrote p q e = rw (level p q e) none

  pub uneven_wrote : {l l' : List ℕ} {at next a b y : ℕ} → Wrote l at (corner_text i y) next l' → a ≡ get_or heights (i - 1) 0
      → b ≡ get_or heights i 0 → y ≡ cond back a b → (a ≡ b → ⊥) → Wrote l at (step_text back heights i) next l'
  uneven_wrote w p q k e = rw (uneven p q k e) w

-- ---- a side

pub edge_back : {back : Bool} (last k : ℕ) → back ≡ true → k < last → (last - k ≡ edge_at back last k) × (0 < last - k)
edge_back last k e h = (rw e, omega arith)

pub edge_on : {back : Bool} (last k : ℕ) → back ≡ false → (k + 1 ≡ edge_at back last k) × (0 < k + 1)
edge_on last k e = (rw e, omega arith)

module _ (back : Bool) (heights : List ℕ) (last k : ℕ) {edge : ℕ} where
  pub step_long : {long : ℕ} → long ≡ length (step_text back heights edge) → edge ≡ edge_at back last k
      → long ≡ length (step_at back heights last k)
  step_long f e = f ∙ ap (λ (n : ℕ). length (step_text back heights n)) e

  pub step_wrote : {l l' : List ℕ} {at next : ℕ} → Wrote l at (step_text back heights edge) next l' → edge ≡ edge_at back last k
      → Wrote l at (step_at back heights last k) next l'
  step_wrote {l} {l'} {at} {next} w e = subst (λ (n : ℕ). Wrote l at (step_text back heights n) next l') e w

-- ---- the outline

module _ (last : ℕ) (tops bottoms : List ℕ) where
  pub outline_long : length (outline last tops bottoms)
      ≡ 6 + length (decimal_text (get_or tops 0 0)) + length (side_text false tops last) + length (corner_text (last + 1) (get_or bottoms last 0))
      + length (side_text true bottoms last)
  unfolding outline
  outline_long = simp length-append (omega arith)

  -- what is left of the room, part by part
  pub outline_left : {top digits opened along bottom corner turned back left : ℕ} (room : ℕ) → top ≡ get_or tops 0 0
      → digits ≡ length (decimal_text top) → opened ≡ room - (3 + digits) → along ≡ opened - length (side_text false tops last)
      → bottom ≡ get_or bottoms last 0 → corner ≡ length (corner_text (last + 1) bottom) → turned ≡ along - corner
      → back ≡ turned - length (side_text true bottoms last) → left ≡ back - 3 → left ≡ room - length (outline last tops bottoms)
  outline_left room t d o a b c u k l =
      let first = d ∙ ap (λ (n : ℕ). length (decimal_text n)) t in
      let turn = c ∙ ap (λ (n : ℕ). length (corner_text (last + 1) n)) b in
      omega (arith, outline_long, first, turn)

  -- `M0 top0` has room, and all that follows
  pub opened : {l₀ l₁ l₂ : List ℕ} {at p₁ p₂ top : ℕ} → top ≡ get_or tops 0 0 → Put l₀ at (77 ∷ 48 ∷ 32 ∷ []) p₁ l₁
      → Put l₁ p₁ (decimal_text top) p₂ l₂ → at + length (outline last tops bottoms) ≤ length l₀
      → Wrote l₀ at ((77 ∷ 48 ∷ 32 ∷ []) ++ decimal_text (get_or tops 0 0)) p₂ l₂
  opened {l₁ = l₁} {l₂} {p₁ = p₁} {p₂} t m first h =
      let long = outline_long in
      let digits = subst (λ (n : ℕ). Put l₁ p₁ (decimal_text n) p₂ l₂) t first in
      join_put (put_wrote m (omega arith)) digits (omega arith)

  pub outline_wrote : {l₀ l₂ l₃ l₄ l₅ l₆ : List ℕ} {at p₂ p₃ p₄ p₅ p₆ bottom : ℕ}
      → Wrote l₀ at ((77 ∷ 48 ∷ 32 ∷ []) ++ decimal_text (get_or tops 0 0)) p₂ l₂ → Wrote l₂ p₂ (side_text false tops last) p₃ l₃
      → bottom ≡ get_or bottoms last 0 → Wrote l₃ p₃ (corner_text (last + 1) bottom) p₄ l₄ → Wrote l₄ p₄ (side_text true bottoms last) p₅ l₅
      → Put l₅ p₅ (72 ∷ 48 ∷ 122 ∷ []) p₆ l₆ → at + length (outline last tops bottoms) ≤ length l₀
      → Wrote l₀ at (outline last tops bottoms) p₆ l₆
  unfolding outline
  outline_wrote {l₃ = l₃} {l₄} {p₃ = p₃} {p₄} first along b corner back end h =
      let long = outline_long in
      let turn = subst (λ (n : ℕ). Wrote l₃ p₃ (corner_text (last + 1) n) p₄ l₄) b corner in
      join_put (join (join (join first along) turn) back) end (simp length-append (omega arith))

-- ---- a band

pub no_band : {l : List ℕ} {at : ℕ} (tops bottoms : List ℕ) → length tops ≡ 0 → Put l at (band_text tops bottoms) at l
no_band tops bottoms e = rw (eq-eqb (length tops) 0 e) put_nothing

pub some_band : {l l' : List ℕ} {at next : ℕ} (tops bottoms : List ℕ) → (length tops ≡ 0 → ⊥)
    → Put l at (outline (length tops - 1) tops bottoms) next l' → Put l at (band_text tops bottoms) next l'
some_band tops bottoms e p = rw (ne_eqb (length tops) 0 e) p
