-- A latch, a wait and the ticks since a latching, one tick later: each latches when it holds and recovers when latched and its recovery
-- holds.
-- Assumes nothing.
use mathlib.Core.Path.{◌≡◌, refl, sym, ap, ◌∙◌}
use mathlib.Core.Bool.{Bool, true, false, ◌&&◌, ◌||◌, not, cond, and-true, and-false, or-false}
use mathlib.Core.List.{List, [], ◌∷◌}
use Prim.Native.Nat.{ℕ, zero, suc, ◌-◌, ◌≤◌}
use native.Mathlib.Omega.{arith}
use native.Mathlib.Nat.{not-suc-le-zero}
use borrow.Author.Tests.{ltb-true, ltb-false, lt-ltb, eq-eqb, ne_eqb}
use lib.Dec.{eqb, ltb}
use lib.ListN.{length, take}
use Rattle.laws.specs.History.{any, some, up_to, newest, ago, sum, stands, waits, unbroken, longest, since_latched, SinceLatched}
use Rattle.laws.proofs.Lists.{timer, waited}
use Rattle.laws.proofs.Latch.{wrong}

-- ---- by the readings of a tick

module _ {A : Type 0} (held : A → Bool) where
  pub stands_next : (over : A → Bool) (t : A) (ts : List A) → stands held over (t ∷ ts) ≡ (held t || stands held over ts && not (over t))
  stands_next over t ts = go (held t) (over t)
    where
      go : (a b : Bool) → cond a true (any held (cond b [] (up_to over ts))) ≡ (a || stands held over ts && not b)
      go true b = refl
      go false true = sym (and-false (stands held over ts))
      go false false = sym (and-true (stands held over ts))

  -- ---- by a wait

  module _ (wait : A → ℕ) where
    abbrev left : List A → ℕ
    left ts = sum (λ t. wait t - ago held ts) (newest held ts)

    pub left_next : (t : A) (ts : List A) → left (t ∷ ts) ≡ cond (held t) (wait t) (left ts - 1)
    left_next t ts = sym (timer held wait (t ∷ ts)) ∙ ap (λ n. cond (held t) (wait t) (n - 1)) (timer held wait ts)

    left_waits : (ts : List A) → waits held wait ts ≡ ltb 0 (left ts)
    left_waits ts = sym (waited held wait ts) ∙ ap (ltb 0) (timer held wait ts)

    pub waits_next : (t : A) (ts : List A) → 1 ≤ wait t
        → waits held wait (t ∷ ts) ≡ (held t || waits held wait ts && not (eqb (cond (held t) (wait t) (left ts - 1)) 0))
    waits_next t ts enough =
        left_waits (t ∷ ts) ∙ ap (ltb 0) (left_next t ts) ∙ go (held t) (left ts)
        ∙ ap (λ b. held t || b && not (eqb (cond (held t) (wait t) (left ts - 1)) 0)) (sym (left_waits ts))
      where
        some_left : (n : ℕ) (b : Bool) → ltb 0 (n - 1) ≡ b → b ≡ (ltb 0 n && not (eqb (n - 1) 0))
        some_left n true e =
            let l = ltb-true 0 (n - 1) e in
            rw (lt-ltb 0 n (omega arith), ne_eqb (n - 1) 0 (λ z. omega arith)) refl
        some_left n false e = rw (eq-eqb (n - 1) 0 (omega (arith, ltb-false))) (sym (and-false (ltb 0 n)))

        go : (a : Bool) (n : ℕ) → ltb 0 (cond a (wait t) (n - 1)) ≡ (a || ltb 0 n && not (eqb (cond a (wait t) (n - 1)) 0))
        go true n = lt-ltb 0 (wait t) enough
        go false n = some_left n (ltb 0 (n - 1)) refl

-- ---- by all ticks since it latched; whoever asks of fewer ticks recovers no later

module _ {A : Type 0} (holds : A → Bool) (recovers : List A → Bool)
    (fewer : (t : A) (m n : ℕ) (ts : List A) → m ≤ n → recovers (t ∷ take n ts) ≡ true → recovers (t ∷ take m ts) ≡ true) where
  abbrev found : ℕ → List A → List A
  found n ts = longest (unbroken holds recovers) n ts

  abbrev goes_on : A → List A → Bool
  goes_on t ts = holds t || some ts && not (recovers (t ∷ ts))

  -- what is found is the newest few
  front : (n : ℕ) (ts : List A) → (k : ℕ) × (k ≤ n) × (found n ts ≡ take k ts)
  front zero ts = (0, omega arith, refl)
  front (suc n) ts = go (unbroken holds recovers (take (suc n) ts)) (front n ts)
    where
      go : (b : Bool) → (k : ℕ) × (k ≤ n) × (found n ts ≡ take k ts)
          → (k : ℕ) × (k ≤ suc n) × (cond b (take (suc n) ts) (found n ts) ≡ take k ts)
      go true i = (suc n, omega arith, refl)
      go false i = let l = i.1 in (i.0, omega arith, i.2)

  -- where a stretch is recovered, and it does not hold, each part of it is
  parts_recover : (t : A) (n : ℕ) (ts : List A) → holds t ≡ false → recovers (t ∷ take (suc n) ts) ≡ true → goes_on t (found n ts) ≡ false
  parts_recover t n ts e f =
      let i = front n ts in
      let l = i.1 in
      rw (e, i.2, fewer t i.0 (suc n) ts (omega arith) f) (and-false (some (take i.0 ts)))

  next : (t : A) (n : ℕ) (ts : List A) → n ≤ length ts → found (suc n) (t ∷ ts) ≡ cond (goes_on t (found n ts)) (t ∷ found n ts) []
  next t zero ts l = ap (λ (b : Bool). cond b (t ∷ []) []) (sym (or-false (holds t)))
  next t (suc n) [] l = absurd (not-suc-le-zero l)
  next t (suc n) (u ∷ ts) l =
      go (unbroken holds recovers (u ∷ take n ts)) (holds t) refl (recovers (t ∷ u ∷ take n ts)) refl (next t n (u ∷ ts) (omega arith))
    where
      go : (b : Bool) (h : Bool) → holds t ≡ h → (r : Bool) → recovers (t ∷ u ∷ take n ts) ≡ r
          → found (suc n) (t ∷ u ∷ ts) ≡ cond (goes_on t (found n (u ∷ ts))) (t ∷ found n (u ∷ ts)) []
          → cond (b && (h || not r)) (t ∷ u ∷ take n ts) (found (suc n) (t ∷ u ∷ ts))
          ≡ cond (goes_on t (cond b (u ∷ take n ts) (found n (u ∷ ts)))) (t ∷ cond b (u ∷ take n ts) (found n (u ∷ ts))) []
      go true true e r f i = rw e refl
      go true false e false f i = rw (e, f) refl
      go true false e true f i = rw (e, f) (i ∙ ap (λ (b : Bool). cond b (t ∷ found n (u ∷ ts)) []) (parts_recover t n (u ∷ ts) e f))
      go false h e r f i = i

  pub since_next : (t : A) (ts : List A)
      → since_latched holds recovers (t ∷ ts) ≡ cond (goes_on t (since_latched holds recovers ts)) (t ∷ since_latched holds recovers ts) []
  since_next t ts = next t (length ts) ts (omega arith)

  -- ---- it latched at the oldest of them

  pub latched_at : (ts : List A) → some (since_latched holds recovers ts) ≡ true → SinceLatched holds recovers ts
  latched_at [] e = wrong e
  latched_at (t ∷ ts) e = go (since_latched holds recovers ts) refl (latched_at ts)
    where
      yes : (b : Bool) → some (cond b (t ∷ since_latched holds recovers ts) []) ≡ true → b ≡ true
      yes true f = refl
      yes false f = f

      stays : goes_on t (since_latched holds recovers ts) ≡ true
      stays = yes (goes_on t (since_latched holds recovers ts)) (ap some (sym (since_next t ts)) ∙ e)

      longer : since_latched holds recovers (t ∷ ts) ≡ t ∷ since_latched holds recovers ts
      longer = since_next t ts ∙ ap (λ (b : Bool). cond b (t ∷ since_latched holds recovers ts) []) stays

      go : (before : List A) → since_latched holds recovers ts ≡ before
          → (some (since_latched holds recovers ts) ≡ true → SinceLatched holds recovers ts) → SinceLatched holds recovers (t ∷ ts)
      go [] f i =
          record {
            later = [];
            tick = t;
            earlier = ts;
            split = refl;
            held = sym (or-false (holds t)) ∙ sym (ap (goes_on t) f) ∙ stays;
            before = f;
            since = longer ∙ ap (λ (l : List A). t ∷ l) f;
          }
      go (u ∷ us) f i =
          let r = i (ap some f) in
          record {
            later = t ∷ r.later;
            tick = r.tick;
            earlier = r.earlier;
            split = ap (λ (l : List A). t ∷ l) r.split;
            held = r.held;
            before = r.before;
            since = longer ∙ ap (λ (l : List A). t ∷ l) r.since;
          }
