-- A number with its minus, as it stands at a place. Assumes nothing.
use mathlib.Core.Path.{◌≡◌, refl, ap, ◌∙◌}
use mathlib.Core.Bool.{Bool, true, false, cond}
use mathlib.Core.List.{List, [], ◌∷◌}
use Rattle.std.specs.Prelude.{Option, None, Some, option_map}
use Prim.Native.Nat.{ℕ, suc, ◌+◌, ◌-◌, ◌*◌, ◌<◌}
use native.Mathlib.Numerals.{add-one}
use native.Mathlib.Omega.{arith}
use borrow.Author.Tests.{eqb-true, ltb-true, ltb-false}
use lib.Dec.{ltb}
use lib.ListN.{length, drop, get_or, drop_of_length-le}
use lib.Seq.{drop-cons}
use Rattle.text.specs.Words.{is_space, word, ends_word, figure, read_at}
use Rattle.text.specs.Numbers.{number_of, signed_of, hex_of, two_digits, byte_of}
use Rattle.std.specs.Bool.{then_some}
use Rattle.text.specs.Scan.{starts_minus, changed}
use Rattle.text.specs.declared.words.Figure.{Figure}

wrong : {A : Type 0} → false ≡ true → A
wrong e = absurd (let z : ◌≡◌ {A = ℕ} 0 1 = cc in omega arith)

-- ---- a number with its minus

changed_figure : (f : ℕ → ℕ) (next : ℕ) (o : Option ℕ) → changed f (figure next o) ≡ figure next (option_map f o)
changed_figure f next None = refl
changed_figure f next (Some n) = refl

pub minus_there : (line : List ℕ) (at : ℕ) → starts_minus (drop at line) ≡ true → at < length line
minus_there line at e = go (ltb at (length line)) refl
  where
    go : (t : Bool) → ltb at (length line) ≡ t → at < length line
    go true f = ltb-true at (length line) f
    go false f = wrong (rw (drop_of_length-le line {i = at} (ltb-false at (length line) f)) at e)

pub below_zero : (line : List ℕ) (at most : ℕ) → starts_minus (drop at line) ≡ true
    → changed (λ n. most + 1 - n) (read_at (number_of (most + 1)) line (at + 1)) ≡ read_at (signed_of most) line at
below_zero line at most e =
    rw (add-one at, drop-cons line at 0 h, minus) (changed_figure (λ n. most + 1 - n) (suc at + length (word (drop (suc at) line)))
    (number_of (most + 1) (word (drop (suc at) line)))
    ∙ ap (λ (n : ℕ). figure n (option_map (λ n. most + 1 - n) (number_of (most + 1) (word (drop (suc at) line))))) place)
  where
    h : at < length line
    h = minus_there line at e

    minus : get_or line at 0 ≡ 45
    minus = eqb-true (get_or line at 0) 45 (rw (drop-cons line at 0 h) at e)

    place : suc at + length (word (drop (suc at) line)) ≡ at + suc (length (word (drop (suc at) line)))
    place = omega arith

-- ---- a byte of two hex digits

two : (line : List ℕ) (at : ℕ) → at + 1 < length line → drop at line ≡ get_or line at 0 ∷ get_or line (at + 1) 0 ∷ drop (at + 2) line
two line at h =
    let e : at + 2 ≡ suc (suc at) = omega arith in
    rw (e, add-one at, drop-cons line at 0 (omega arith), drop-cons line (suc at) 0 (omega arith))

no_space : (a high : ℕ) → hex_of a ≡ Some high → is_space a ≡ false
no_space a high e = go (is_space a) refl
  where
    go : (s : Bool) → is_space a ≡ s → s ≡ false
    go true f = let k : hex_of a ≡ None = ap hex_of (eqb-true a 32 f) in absurd (let z : ◌≡◌ {A = ℕ} 0 1 = cc in omega arith)
    go false f = refl

not_second : (first : Option ℕ) → two_digits first None ≡ None
not_second None = refl
not_second (Some n) = refl

second_wrong : (a b : ℕ) (bs : List ℕ) → hex_of b ≡ None → byte_of (word (a ∷ b ∷ bs)) ≡ None
second_wrong a b bs e = go (is_space a) (is_space b) (word bs)
  where
    go : (s t : Bool) (rest : List ℕ) → byte_of (cond s [] (a ∷ cond t [] (b ∷ rest))) ≡ None
    go true t rest = refl
    go false true rest = refl
    go false false [] = rw e (not_second (hex_of a))
    go false false (c ∷ cs) = refl

pub no_low : (line : List ℕ) (at : ℕ) → at + 1 < length line → hex_of (get_or line (at + 1) 0) ≡ None → None ≡ read_at byte_of line at
no_low line at h e = rw (two line at h, second_wrong (get_or line at 0) (get_or line (at + 1) 0) (drop (at + 2) line) e)

pub both : (line : List ℕ) (at : ℕ) {high low : ℕ} {ends : Bool} → at + 1 < length line → hex_of (get_or line at 0) ≡ Some high
    → hex_of (get_or line (at + 1) 0) ≡ Some low → ends ≡ ends_word (drop (at + 2) line)
    → then_some {T = Figure} ends (record { value = 16 * high + low; next = at + 2 }) ≡ read_at byte_of line at
both line at {high} {low} {ends} h p q e =
    rw (two line at h, no_space (get_or line at 0) high p, no_space (get_or line (at + 1) 0) low q, e) (go (drop (at + 2) line))
  where
    go : (rest : List ℕ) → then_some {T = Figure} (ends_word rest) (record { value = 16 * high + low; next = at + 2 })
        ≡ figure (at + suc (suc (length (word rest)))) (byte_of (get_or line at 0 ∷ get_or line (at + 1) 0 ∷ word rest))
    go [] = rw (p, q)
    go (c ∷ cs) = by_end (is_space c)
      where
        by_end : (s : Bool) → then_some {T = Figure} s (record { value = 16 * high + low; next = at + 2 })
            ≡ figure (at + suc (suc (length (cond s [] (c ∷ word cs))))) (byte_of (get_or line at 0 ∷ get_or line (at + 1) 0 ∷ cond s [] (c ∷ word cs)))
        by_end true = rw (p, q)
        by_end false = refl
