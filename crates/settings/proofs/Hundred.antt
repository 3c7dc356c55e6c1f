-- The hundred values by the numbers of their registers, and the row of those out of range: each register from the lowest on is the one
-- found, or is passed by. Assumes nothing.
use mathlib.Core.Path.{◌≡◌, refl, ap, ◌∙◌}
use mathlib.Core.Bool.{Bool, true, false, ◌&&◌, not, cond}
use mathlib.Core.List.{List, map}
use Prim.Native.Nat.{ℕ, zero, suc, ◌+◌, ◌-◌, ◌<◌}
use native.Mathlib.Nat.{not-suc-le-zero}
use native.Mathlib.Omega.{arith}
use lib.ListN.{length, get_or}
use lib.Signed.{le_z}
use Rattle.laws.specs.History.{any}
use Rattle.refusals.specs.declared.Refusal.{Refusal}
use Rattle.refusals.specs.declared.Refusal.TheVariants.{OutOfRange}
use Rattle.settings.specs.declared.Settings.{Settings}
use Rattle.settings.specs.Settings.{minimum, maximum, register_of, up_from, registers, values_of, meant_by, fits, is_out, lowest}

-- what is told of each register from `at` on
mapped : (f : ℕ → ℕ) (at n i : ℕ) → i < n → get_or (map f (up_from at n)) i 0 ≡ f (at + i)
mapped f at zero i h = absurd (not-suc-le-zero h)
mapped f at (suc n) zero h = let k : at ≡ at + 0 = omega arith in ap f k
mapped f at (suc n) (suc i) h = let k : suc at + i ≡ at + suc i = omega arith in mapped f (suc at) n i (omega arith) ∙ ap f k

pub values_length : (s : Settings) → length (values_of s) ≡ 100
unfolding values_of registers
values_length s = refl

pub values_at : (s : Settings) (i : ℕ) → i < 100 → get_or (values_of s) i 0 ≡ register_of s (300 + i)
unfolding values_of registers
values_at s i h = mapped (register_of s) 300 100 i h

-- a value against the least and the greatest at its register's place
pub fits_by : {least greatest : List ℕ} (i value : ℕ) {t : Bool} → i < 100 → least ≡ values_of minimum → greatest ≡ values_of maximum
    → t
    ≡ le_z (meant_by (300 + i) (get_or least i 0)) (meant_by (300 + i) value)
    && le_z (meant_by (300 + i) value) (meant_by (300 + i) (get_or greatest i 0))
    → fits (300 + i) value ≡ t
unfolding fits
fits_by {least} {greatest} i value h l g e =
    let low : get_or least i 0 ≡ register_of minimum (300 + i) = ap (λ (values : List ℕ). get_or values i 0) l ∙ values_at minimum i h in
    let high : get_or greatest i 0 ≡ register_of maximum (300 + i) = ap (λ (values : List ℕ). get_or values i 0) g ∙ values_at maximum i h in
    rw (e, low, high)

-- the row of the registers that are out of their range, of some of them
abbrev pub range_row : List ℕ → List ℕ → Refusal × Bool
range_row values ats = (OutOfRange (lowest (is_out values) ats), any (is_out values) ats)

-- the registers from that of place i on
abbrev pub on_from : ℕ → List ℕ
on_from i = up_from (300 + i) (100 - i)

pub tested : (values : List ℕ) (i : ℕ) {t : Bool} → i < 100 → fits (300 + i) (get_or values i 0) ≡ t
    → range_row values (on_from i) ≡ cond t (range_row values (on_from (i + 1))) (OutOfRange (300 + i), true)
unfolding is_out
tested values i {t} h e =
    let left : 100 - i ≡ suc (100 - (i + 1)) = omega arith in
    let place : 300 + i - 300 ≡ i = omega arith in
    let out : is_out values (300 + i) ≡ not t = ap (λ (k : ℕ). not (fits (300 + i) (get_or values k 0))) place ∙ ap not e in
    let next : suc (300 + i) ≡ 300 + (i + 1) = omega arith in
    ap (λ (n : ℕ). range_row values (up_from (300 + i) n)) left ∙ rw (next, out) (go t)
  where
    rest : List ℕ
    rest = on_from (i + 1)

    go : (t : Bool)
        → ◌≡◌ {A = Refusal × Bool}
        (OutOfRange (cond (not t) (300 + i) (lowest (is_out values) rest)), cond (not t) true (any (is_out values) rest))
        (cond t (range_row values rest) (OutOfRange (300 + i), true))
    go true = refl
    go false = refl
