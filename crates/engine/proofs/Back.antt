-- Looking back through the ticks, from the newest to the oldest: what the ticks before tell is still what all of them tell.
-- Assumes nothing.
use mathlib.Core.Path.{◌≡◌, refl, sym, ap, ◌∙◌}
use mathlib.Core.Bool.{Bool, true, false, ◌&&◌, ◌||◌, not, cond, and-true}
use mathlib.Core.List.{List, [], ◌∷◌}
use Prim.Native.Nat.{ℕ, suc, ◌+◌, ◌*◌, ◌-◌, ◌<◌, ◌≤◌}
use native.Mathlib.Omega.{arith}
use lib.Dec.{ltb}
use Rattle.laws.specs.History.{any, newest, ago, stands, waits}
use Rattle.laws.proofs.Later.{stands_next}
use Rattle.settings.specs.declared.Settings.{Settings}
use Rattle.guard.specs.declared.Condition.{Condition}
use Rattle.guard.specs.Account.{Moment, wait_of}
use Rattle.engine.specs.Engine.{moment_at, moments_of}
use Rattle.engine.specs.Looks.{held, recovered}

-- the newest of the first i ticks
before : (st : Settings) (count : ℕ) (s : List ℕ) (i : ℕ) → 0 < i
    → moments_of st count s i ≡ moment_at st count s (i - 1) ∷ moments_of st count s (i - 1)
before st count s i h = let e : i ≡ suc (i - 1) = omega arith in ap (moments_of st count s) e

-- ---- without a wait: the first i of n ticks are still to be seen

abbrev standing : Condition → Settings → ℕ → List ℕ → ℕ → Bool
standing c st count s i = stands (held c) (recovered c) (moments_of st count s i)

pub record LooksBack (c : Condition) (st : Settings) (count : ℕ) (s : List ℕ) (n i : ℕ) : Type 0 where
  pub rest : standing c st count s i ≡ standing c st count s n

module _ {c : Condition} {st : Settings} {count : ℕ} {s : List ℕ} {n i : ℕ} (l : LooksBack c st count s n i) (h : 0 < i) where
  found : (a b : Bool) → held c (moment_at st count s (i - 1)) ≡ a → recovered c (moment_at st count s (i - 1)) ≡ b
      → (a || standing c st count s (i - 1) && not b) ≡ standing c st count s n
  found a b e f =
      rw (sym e, sym f) (sym (ap (stands (held c) (recovered c)) (before st count s i h)
      ∙ stands_next (held c) (recovered c) (moment_at st count s (i - 1)) (moments_of st count s (i - 1))) ∙ l.rest)

  module _ {t u : Bool} (e : t ≡ held c (moment_at st count s (i - 1))) (f : t ≡ false)
      (g : u ≡ recovered c (moment_at st count s (i - 1)))
    where
      pub passed : u ≡ false → LooksBack c st count s n (i - 1)
      passed v = record { rest = sym (and-true (standing c st count s (i - 1))) ∙ found false false (sym e ∙ f) (sym g ∙ v) }

-- ---- with a wait: so many ticks are gone, and the first i of n are still to be seen

abbrev waiting : Condition → ℕ → List Moment → Bool
waiting c gone ms = any (λ m. ltb gone (wait_of m)) (newest (held c) ms)

pub record WaitsBack (c : Condition) (st : Settings) (count : ℕ) (s : List ℕ) (n i : ℕ) : Type 0 where
  pub within : i ≤ n
  pub rest : waiting c (n - i + ago (held c) (moments_of st count s i)) (moments_of st count s i)
      ≡ waits (held c) wait_of (moments_of st count s n)

module _ {c : Condition} {st : Settings} {count : ℕ} {s : List ℕ} {n i : ℕ} (l : WaitsBack c st count s n i) where
  module _ (h : 0 < i) {t : Bool} (e : t ≡ held c (moment_at st count s (i - 1))) where
    waits_found : (a : Bool) → held c (moment_at st count s (i - 1)) ≡ a
        → any (λ m. ltb (n - i + cond a 0 (suc (ago (held c) (moments_of st count s (i - 1))))) (wait_of m))
        (cond a (moment_at st count s (i - 1) ∷ []) (newest (held c) (moments_of st count s (i - 1))))
        ≡ waits (held c) wait_of (moments_of st count s n)
    waits_found a f = rw (before st count s i h, f) at l.rest

    pub waits_held : {wait : ℕ} → wait ≡ 10 * st.r332 → t ≡ true
        → ltb (n - (i - 1) - 1) wait ≡ waits (held c) wait_of (moments_of st count s n)
    unfolding moment_at
    waits_held w f =
        let d : n - (i - 1) - 1 ≡ n - i + 0 = omega (arith, l.within) in
        rw (d, w) (one (ltb (n - i + 0) (10 * st.r332)) ∙ waits_found true (sym e ∙ f))
      where
        one : (b : Bool) → b ≡ cond b true false
        one true = refl
        one false = refl

    pub waits_passed : t ≡ false → WaitsBack c st count s n (i - 1)
    waits_passed f =
        let d : n - (i - 1) + ago (held c) (moments_of st count s (i - 1)) ≡ n - i + suc (ago (held c) (moments_of st count s (i - 1))) =
        omega (arith, l.within) in
        record {
          within = omega (arith, l.within);
          rest = ap (λ (gone : ℕ). waiting c gone (moments_of st count s (i - 1))) d ∙ waits_found false (sym e ∙ f);
        }
