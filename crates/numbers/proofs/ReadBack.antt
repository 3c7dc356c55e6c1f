-- What is written reads back, and what is read is written back, for any count of bytes, wherever they stand. Assumes nothing.
use mathlib.Core.Path.{◌≡◌, refl, sym, ap, ap₂, ◌∙◌}
use mathlib.Core.List.{List, [], ◌∷◌, ◌++◌, append_assoc}
use Prim.Native.Nat.{ℕ, zero, suc, ◌+◌, ◌*◌, ◌^◌, ◌/◌, ◌%◌, ◌≤◌, ◌<◌}
use native.Mathlib.Nat.{mul-add, mul_assoc, pow-succ'}
use native.Mathlib.Numerals.{add-one}
use native.Mathlib.Omega.{arith}
use lib.ListN.{length, get_or, take, drop, length-append}
use lib.Seq.{sets-eq, length-take-le, get_or-append_seam, append_snoc, drop-cons}
use Rattle.numbers.specs.Numbers.{low_first_or, low_first, Wrote}

-- the lowest byte, and 256 times the others
lowest : (past k : ℕ) (s : List ℕ) (at : ℕ) → low_first_or past (suc (suc k)) s at ≡ get_or s at past + 256 * low_first_or past (suc k) s (at + 1)
lowest past zero s at = refl
lowest past (suc k) s at =
    let i = lowest past k s at in
    let x = get_or s (at + suc (suc k)) past in
    let place : at + suc (suc k) ≡ at + 1 + suc k = omega arith in
    let top : 256 ^ suc (suc k) * x ≡ 256 * (256 ^ suc k * get_or s (at + 1 + suc k) past) =
    ap (λ (n : ℕ). n * x) (pow-succ' 256 (suc k)) ∙ mul_assoc 256 (256 ^ suc k) x
    ∙ ap (λ (n : ℕ). 256 * (256 ^ suc k * get_or s n past)) place in
    let sum = mul-add 256 (low_first_or past (suc k) s (at + 1)) (256 ^ suc k * get_or s (at + 1 + suc k) past) in
    omega arith

length_bytes : (k n : ℕ) → length (low_first k n) ≡ k
length_bytes zero n = refl
length_bytes (suc zero) n = refl
length_bytes (suc (suc k)) n = ap suc (length_bytes (suc k) (n / 256))

-- behind other bytes, and before others
pub stands : (past k n : ℕ) (front rest : List ℕ) (at : ℕ) → at ≡ length front
    → low_first_or past (suc k) (front ++ (low_first (suc k) n ++ rest)) at ≡ n
stands past zero n front rest at e = ap (λ (i : ℕ). get_or (front ++ (n ∷ rest)) i past) e ∙ get_or-append_seam front n rest past
stands past (suc k) n front rest at e =
    let others = low_first (suc k) (n / 256) ++ rest in
    let longer = front ++ (n % 256 ∷ []) in
    let s = front ++ (n % 256 ∷ others) in
    let low : get_or s at past ≡ n % 256 = ap (λ (i : ℕ). get_or s i past) e ∙ get_or-append_seam front (n % 256) others past in
    let long : at + 1 ≡ length longer = simp length-append (omega arith) in
    let high : low_first_or past (suc k) s (at + 1) ≡ n / 256 =
    ap (λ (l : List ℕ). low_first_or past (suc k) l (at + 1)) (sym (append_snoc front (n % 256) others))
    ∙ stands past k (n / 256) longer rest (at + 1) long in
    lowest past k s at ∙ omega arith

pub reads_back : (past k n at : ℕ) {before after : List ℕ} → Wrote before at (low_first (suc k) n) after → at + suc k ≤ length before
    → low_first_or past (suc k) after at ≡ n
reads_back past k n at {before} {after} w h =
    let bytes = low_first (suc k) n in
    let long = length_bytes (suc k) n in
    let rest = drop (at + length bytes) before in
    let put : after ≡ take at before ++ (bytes ++ rest) = w.wrote ∙ sets-eq bytes before at (omega arith)
    ∙ append_assoc (take at before) bytes rest in
    ap (λ (l : List ℕ). low_first_or past (suc k) l at) put
    ∙ stands past k n (take at before) rest at (sym (length-take-le at before (omega arith)))

-- what is read of bytes, each below 256, is written as these bytes
pub writes_back : (past k : ℕ) (s : List ℕ) (at : ℕ) → ((i : ℕ) → get_or s i past < 256) → at + suc k ≤ length s
    → low_first (suc k) (low_first_or past (suc k) s at) ≡ take (suc k) (drop at s)
writes_back past zero s at b h = ap (take 1) (sym (drop-cons s at past (omega arith)))
writes_back past (suc k) s at b h =
    let v = low_first_or past (suc k) s (at + 1) in
    let x = get_or s at past in
    let below = b at in
    let low : (x + 256 * v) % 256 ≡ x = omega arith in
    let rest : (x + 256 * v) / 256 ≡ v = omega arith in
    ap (low_first (suc (suc k))) (lowest past k s at)
    ∙ ap₂ (λ (a n : ℕ). a ∷ low_first (suc k) n) low rest
    ∙ ap (λ (l : List ℕ). x ∷ l) (writes_back past k s (at + 1) b (omega arith))
    ∙ ap (λ (n : ℕ). x ∷ take (suc k) (drop n s)) (add-one at)
    ∙ ap (take (suc (suc k))) (sym (drop-cons s at past (omega arith)))
