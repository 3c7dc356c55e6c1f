-- Past 2^48 pulses the distance stands at its end, 2^32 - 1, for all pulses per km that sixteen bits hold. Assumes nothing.
use mathlib.Core.Path.{◌≡◌}
use Prim.Native.Nat.{ℕ, ◌*◌, ◌/◌, ◌<◌, ◌≤◌, min}
use native.Mathlib.Nat.{le-div_iff_mul-le}
use native.Mathlib.Omega.{arith, min_cases}

-- 4294967295 · 65535 is at most 100 · 2^48
past : (p k : ℕ) → 0 < k → k ≤ 65535 → 281474976710656 ≤ p → 4294967295 ≤ 100 * p / k
past p k some held h = (le-div_iff_mul-le some).1 (omega arith)

pub stopped : (p k : ℕ) → 0 < k → k ≤ 65535 → min 4294967295 (100 * min 281474976710656 p / k) ≡ min 4294967295 (100 * p / k)
stopped p k some held =
    min_cases 281474976710656 p _
    (λ h e. rw e (omega (arith, past p k some held h, past 281474976710656 k some held (omega arith))))
    (λ h e. rw e)

-- as the code has it
pub held : (p k : ℕ) → 0 < k → k ≤ 65535 → min (100 * min p 281474976710656 / k) 4294967295 ≡ min 4294967295 (100 * p / k)
held p k some m = let e : min p 281474976710656 ≡ min 281474976710656 p = omega arith in rw e (omega (arith, stopped p k some m))
