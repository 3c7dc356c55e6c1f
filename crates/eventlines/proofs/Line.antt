-- An event's line is its parts in a row, and takes four bytes more than the tick's digits; 0 has none. Assumes nothing.
use mathlib.Core.Path.{◌≡◌, sym, ap, ◌∙◌}
use mathlib.Core.List.{List, [], ◌∷◌, ◌++◌, append_assoc}
use Prim.Native.Nat.{ℕ, ◌+◌, ◌≤◌}
use native.Mathlib.Omega.{arith}
use borrow.Author.Tests.{eq-eqb, ne_eqb}
use lib.ListN.{length, length-append}
use Rattle.text.specs.Digits.{decimal_text, hex_text, Put, Wrote}
use Rattle.text.proofs.Writing.{none, put_wrote, join_put}
use Rattle.eventlines.specs.EventLines.{event_line, line_of}

pub quiet : (tick event : ℕ) → event ≡ 0 → line_of tick event ≡ []
quiet tick event e = rw (eq-eqb event 0 e)

pub told : (tick event : ℕ) → (event ≡ 0 → ⊥) → line_of tick event ≡ event_line tick event
told tick event e = rw (ne_eqb event 0 e)

pub quiet_long : (tick event : ℕ) → event ≡ 0 → 0 ≡ length (line_of tick event)
quiet_long tick event e = sym (ap length (quiet tick event e))

pub told_long : (tick event : ℕ) → (event ≡ 0 → ⊥) → length (line_of tick event) ≡ length (decimal_text tick) + 4
told_long tick event e = ap length (told tick event e) ∙ length-append (decimal_text tick) (32 ∷ hex_text event ++ (10 ∷ []))

pub quiet_wrote : {l : List ℕ} {at : ℕ} (tick event : ℕ) → event ≡ 0 → Wrote l at (line_of tick event) at l
quiet_wrote tick event e = rw (quiet tick event e) none

pub told_wrote : {l₀ l₁ l₂ l₃ l₄ : List ℕ} {at p₁ p₂ p₃ p₄ : ℕ} (tick event : ℕ) → Put l₀ at (decimal_text tick) p₁ l₁
    → Put l₁ p₁ (32 ∷ []) p₂ l₂ → Put l₂ p₂ (hex_text event) p₃ l₃ → Put l₃ p₃ (10 ∷ []) p₄ l₄ → (event ≡ 0 → ⊥)
    → at + length (line_of tick event) ≤ length l₀ → Wrote l₀ at (line_of tick event) p₄ l₄
told_wrote {l₀} {l₄ = l₄} {at} {p₄ = p₄} tick event digits space number end e h =
    let long = told_long tick event e in
    let one : length (decimal_text tick ++ (32 ∷ [])) ≡ length (decimal_text tick) + 1 = length-append (decimal_text tick) (32 ∷ []) in
    let three : length (decimal_text tick ++ (32 ∷ []) ++ hex_text event) ≡ length (decimal_text tick) + 3
    = length-append (decimal_text tick ++ (32 ∷ [])) (hex_text event) ∙ omega arith in
    let all : Wrote l₀ at (decimal_text tick ++ (32 ∷ []) ++ hex_text event ++ (10 ∷ [])) p₄ l₄
    = join_put (join_put (join_put (put_wrote digits (omega arith)) space (omega arith)) number (omega arith)) end (omega arith) in
    rw (told tick event e) (simp append_assoc at all)
