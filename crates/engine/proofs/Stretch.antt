-- OT by W-204: a stretch of ticks from the first to the newest, with the externals that were connected since; and which stretch to try.
-- Assumes nothing.
use mathlib.Core.Path.{◌≡◌, refl, sym, ap, ap₂, ◌∙◌}
use mathlib.Core.Bool.{Bool, true, false, ◌&&◌, ◌||◌, cond}
use mathlib.Core.List.{List, [], ◌∷◌}
use Prim.Native.Nat.{ℕ, zero, suc, ◌+◌, ◌-◌, ◌<◌, ◌≤◌}
use native.Mathlib.Numerals.{add-one}
use native.Mathlib.Nat.{not-suc-le-zero, sub-zero}
use native.Mathlib.Omega.{arith}
use lib.ListN.{length, take}
use Rattle.laws.specs.History.{some, longest}
use Rattle.settings.specs.declared.Settings.{Settings}
use Rattle.readings.specs.Readings.{connected}
use Rattle.guard.specs.declared.Remembered.{Remembered}
use Rattle.guard.specs.Guard.{recovers_of}
use Rattle.guard.specs.Account.{Moment, holds, connected_at_any, since_hot}
use Rattle.engine.specs.Engine.{moment_at, moments_of}
use Rattle.engine.specs.Looks.{connected_at, either_of, stays_hot, unbroken_hot}

-- ---- the externals seen

or : (a b : Bool) → (a || b) ≡ cond a true b
or true b = refl
or false b = refl

one : (a : Bool) → a ≡ cond a true false
one true = refl
one false = refl

seen_first : (m : Moment) → connected_at m.readings ≡ connected_at_any (m ∷ [])
seen_first m =
    λ i. record { external1 = one (connected m.readings.external1) i; external2 = one (connected m.readings.external2) i }

seen_next : (m : Moment) (ms : List Moment) → either_of (connected_at m.readings) (connected_at_any ms) ≡ connected_at_any (m ∷ ms)
seen_next m ms = λ i. record {
  external1 = or (connected m.readings.external1) (connected_at_any ms).external1 i;
  external2 = or (connected m.readings.external2) (connected_at_any ms).external2 i;
}

-- ---- one tick more of a stretch that is not empty

more : (m : Moment) (k : ℕ) (ms : List Moment) → 0 < k → k ≤ length ms
    → unbroken_hot (m ∷ take k ms) ≡ (unbroken_hot (take k ms) && stays_hot (connected_at_any (m ∷ take k ms)) m)
unfolding recovers_of
more m zero ms h l = absurd (not-suc-le-zero h)
more m (suc k) [] h l = absurd (not-suc-le-zero l)
more m (suc k) (u ∷ ms) h l = refl

length_moments : (st : Settings) (count : ℕ) (s : List ℕ) (n : ℕ) → length (moments_of st count s n) ≡ n
length_moments st count s zero = refl
length_moments st count s (suc n) = ap suc (length_moments st count s n)

-- ticks j to before i
abbrev stretch : Settings → ℕ → List ℕ → ℕ → ℕ → List Moment
stretch st count s j i = take (i - j) (moments_of st count s i)

stretch_next : (st : Settings) (count : ℕ) (s : List ℕ) (j i : ℕ) → j ≤ i
    → stretch st count s j (i + 1) ≡ moment_at st count s i ∷ stretch st count s j i
stretch_next st count s j i h =
    let e : i + 1 - j ≡ suc (i - j) = omega arith in
    ap₂ (λ (k : ℕ) (ms : List Moment). take k ms) e (ap (moments_of st count s) (add-one i))

pub record Stretch (st : Settings) (count : ℕ) (s : List ℕ) (j n : ℕ) (seen : Remembered) (unbroken : Bool) (i : ℕ) : Type 0 where
  pub within : (j < i) × (i ≤ n)
  pub memory : seen ≡ connected_at_any (stretch st count s j i)
  pub so_far : unbroken ≡ unbroken_hot (stretch st count s j i)

pub begun : {st : Settings} {count : ℕ} {s : List ℕ} {j n : ℕ} {seen : Remembered} {unbroken : Bool} → j < n
    → seen ≡ connected_at (moment_at st count s j).readings
    → unbroken ≡ (holds (moment_at st count s j)).ot → Stretch st count s j n seen unbroken (j + 1)
begun {st} {count} {s} {j} h e f =
    let z : j - j ≡ 0 = omega arith in
    let first : stretch st count s j (j + 1) ≡ moment_at st count s j ∷ [] = stretch_next st count s j j (omega arith)
    ∙ ap (λ (k : ℕ). moment_at st count s j ∷ take k (moments_of st count s j)) z in
    record {
      within = (omega arith, omega arith);
      memory = e ∙ seen_first (moment_at st count s j) ∙ ap connected_at_any (sym first);
      so_far = f ∙ ap unbroken_hot (sym first);
    }

module _ {st : Settings} {count : ℕ} {s : List ℕ} {j n : ℕ} {seen : Remembered} {unbroken : Bool} {i : ℕ}
    (g : Stretch st count s j n seen unbroken i)
  where
    pub next : {on later : Remembered} {stays : Bool} → i < n → on ≡ connected_at (moment_at st count s i).readings → later ≡ either_of on seen
        → stays ≡ stays_hot later (moment_at st count s i) → Stretch st count s j n later (unbroken && stays) (i + 1)
    next {on} {later} {stays} h e d f =
        let m = moment_at st count s i in
        let p = stretch_next st count s j i (omega (arith, g.within)) in
        let a : later ≡ connected_at_any (m ∷ stretch st count s j i) =
        d ∙ ap₂ either_of e g.memory ∙ seen_next m (stretch st count s j i) in
        let l = length_moments st count s i in
        record {
          within = (omega (arith, g.within), omega arith);
          memory = a ∙ ap connected_at_any (sym p);
          so_far =
              ap₂ ◌&&◌ g.so_far (f ∙ ap (λ (x : Remembered). stays_hot x m) a)
              ∙ sym (more m (i - j) (moments_of st count s i) (omega (arith, g.within)) (omega arith))
              ∙ ap unbroken_hot (sym p);
        }

    -- what is broken stays so, whatever comes
    broken_on : unbroken ≡ false → (k : ℕ) (to : ℕ) → i + k ≡ to → unbroken_hot (stretch st count s j to) ≡ false
    broken_on e zero to d =
        let f : to ≡ i = omega arith in
        ap (λ (t : ℕ). unbroken_hot (stretch st count s j t)) f ∙ sym g.so_far ∙ e
    broken_on e (suc k) to d =
        let m = moment_at st count s (i + k) in
        let f : to ≡ i + k + 1 = omega arith in
        let l = length_moments st count s (i + k) in
        ap (λ (t : ℕ). unbroken_hot (stretch st count s j t)) f
        ∙ ap unbroken_hot (stretch_next st count s j (i + k) (omega (arith, g.within)))
        ∙ more m (i + k - j) (moments_of st count s (i + k)) (omega (arith, g.within)) (omega arith)
        ∙ ap (λ (b : Bool). b && stays_hot (connected_at_any (m ∷ stretch st count s j (i + k))) m) (broken_on e k (i + k) refl)

    pub broken : unbroken ≡ false → unbroken ≡ unbroken_hot (take (n - j) (moments_of st count s n))
    broken e = e ∙ sym (broken_on e (n - i) n (omega (arith, g.within)))

-- ---- the stretch to try: those from before tick j are broken

pub record Tries (st : Settings) (count : ℕ) (s : List ℕ) (n j : ℕ) : Type 0 where
  pub within : j ≤ n
  pub rest : some (longest unbroken_hot (n - j) (moments_of st count s n)) ≡ some (since_hot (moments_of st count s n))

pub tries : {st : Settings} {count : ℕ} {s : List ℕ} {n : ℕ} → Tries st count s n 0
tries {st} {count} {s} {n} =
    record {
      within = omega arith;
      rest = ap (λ (k : ℕ). some (longest unbroken_hot k (moments_of st count s n))) (sub-zero n ∙ sym (length_moments st count s n));
    }

module _ {st : Settings} {count : ℕ} {s : List ℕ} {n j : ℕ} (g : Tries st count s n j) where
  tried : (b : Bool) → j < n → unbroken_hot (stretch st count s j n) ≡ b
      → some (cond b (stretch st count s j n) (longest unbroken_hot (n - (j + 1)) (moments_of st count s n)))
      ≡ some (since_hot (moments_of st count s n))
  tried b h e =
      let d : n - j ≡ suc (n - (j + 1)) = omega arith in
      ap (λ (b : Bool). some (cond b (stretch st count s j n) (longest unbroken_hot (n - (j + 1)) (moments_of st count s n)))) (sym e)
      ∙ ap (λ (k : ℕ).
      some (cond (unbroken_hot (take k (moments_of st count s n))) (take k (moments_of st count s n))
      (longest unbroken_hot (n - (j + 1)) (moments_of st count s n)))) d
      ∙ ap (λ (k : ℕ). some (longest unbroken_hot k (moments_of st count s n))) (sym d)
      ∙ g.rest

  pub further : {t : Bool} → t ≡ unbroken_hot (stretch st count s j n) → t ≡ false → j < n → Tries st count s n (j + 1)
  further e f h = record { within = omega arith; rest = tried false h (sym e ∙ f) }
