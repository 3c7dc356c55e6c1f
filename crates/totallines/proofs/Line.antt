-- A line is a number's digits and an end, and takes one byte more than the digits; so six of 64 bits take 126 at most. Assumes nothing.
use mathlib.Core.Path.{◌≡◌, ap, ap₂, subst}
use mathlib.Core.List.{List, [], ◌∷◌}
use Prim.Native.Nat.{ℕ, suc, ◌+◌, ◌*◌, ◌^◌, ◌<◌, ◌≤◌}
use native.Mathlib.Omega.{arith}
use lib.ListN.{length, take, get_or, length-append}
use Rattle.refusals.specs.Refusals.{Outcome, Done, Refused, number_of}
use Rattle.std.specs.Prelude.{Ok, Err}
use Rattle.text.specs.Digits.{decimal_text, each_text, Put, Wrote}
use Rattle.text.proofs.Decimal.{twenty}
use Rattle.text.proofs.Writing.{put_wrote, join_put}
use Rattle.totallines.specs.TotalLines.{line_of, refusal_in}

pub line_long : (n : ℕ) → length (line_of n) ≡ length (decimal_text n) + 1
line_long n = length-append (decimal_text n) (10 ∷ [])

pub line_wrote : {l₀ l₁ l₂ : List ℕ} {at p₁ p₂ : ℕ} (n : ℕ) → Put l₀ at (decimal_text n) p₁ l₁ → Put l₁ p₁ (10 ∷ []) p₂ l₂
    → at + length (line_of n) ≤ length l₀ → Wrote l₀ at (line_of n) p₂ l₂
line_wrote n digits end h = let long = line_long n in join_put (put_wrote digits (omega arith)) end (omega arith)

-- the values that are told are the first of six: five, or with a refusal's number all
told : (o : Outcome) (a b c d e : ℕ) {count number : ℕ} → count ≡ 5 + length (refusal_in o) → number ≡ number_of o
    → take count (a ∷ b ∷ c ∷ d ∷ e ∷ number ∷ []) ≡ a ∷ b ∷ c ∷ d ∷ e ∷ refusal_in o
told (Ok done) a b c d e {number = number} p q = ap (λ (n : ℕ). take n (a ∷ b ∷ c ∷ d ∷ e ∷ number ∷ [])) p
told (Err refusal) a b c d e p q = ap₂ (λ (n number : ℕ). take n (a ∷ b ∷ c ∷ d ∷ e ∷ number ∷ [])) p q

pub told_put : {l l' : List ℕ} {at next count number : ℕ} (o : Outcome) (a b c d e : ℕ) → count ≡ 5 + length (refusal_in o)
    → number ≡ number_of o → Put l at (each_text line_of (take count (a ∷ b ∷ c ∷ d ∷ e ∷ number ∷ []))) next l'
    → Put l at (each_text line_of (a ∷ b ∷ c ∷ d ∷ e ∷ refusal_in o)) next l'
told_put {l} {l'} {at} {next} o a b c d e p q put =
    subst (λ (values : List ℕ). Put l at (each_text line_of values) next l') (told o a b c d e p q) put

-- a line of 64 bits takes 21 bytes at most
pub lines_room : (values : List ℕ) → ((i : ℕ) → get_or values i 0 < 2 ^ 64) → length (each_text line_of values) ≤ 21 * length values
lines_room [] h = omega arith
lines_room (v ∷ vs) h =
    let line = line_long v in
    let digits = twenty v (h 0) in
    let rest = lines_room vs (λ i. h (suc i)) in
    rw length-append (omega arith)
