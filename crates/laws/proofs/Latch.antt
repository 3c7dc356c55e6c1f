-- The tests `stands` and `waits` say what the paper's sentences say.
-- Assumes nothing.
use mathlib.Core.Path.{◌≡◌, refl, sym, ap}
use mathlib.Core.Bool.{Bool, true, false, cond}
use mathlib.Core.Logic.{◌↔◌}
use mathlib.Core.List.{List, [], ◌∷◌, ◌++◌}
use Prim.Native.Nat.{ℕ, suc}
use native.Mathlib.Omega.{arith}
use borrow.Author.Tests.{ltb-true, lt-ltb}
use lib.Dec.{ltb}
use lib.ListN.{length}
use Rattle.laws.specs.History.{any, up_to, newest, ago, stands, waits, Stands, Waits}

pub wrong : {A : Type 0} → false ≡ true → A
wrong e = absurd (let z : ◌≡◌ {A = ℕ} 0 1 = cc in omega arith)

module _ {A : Type 0} where
  module _ (holds recovers : A → Bool) where
    stands_later : (later : List A) (t : A) (earlier : List A) → holds t ≡ true → any recovers later ≡ false
        → stands holds recovers (later ++ (t ∷ earlier)) ≡ true
    stands_later [] t earlier e f = rw e
    stands_later (x ∷ later) t earlier e f = go (holds x) (recovers x) f (stands_later later t earlier e)
      where
        go : (a b : Bool) → cond b true (any recovers later) ≡ false
            → (any recovers later ≡ false → stands holds recovers (later ++ (t ∷ earlier)) ≡ true)
            → cond a true (any holds (cond b [] (up_to recovers (later ++ (t ∷ earlier))))) ≡ true
        go true b f i = refl
        go false true f i = wrong (sym f)
        go false false f i = i f

    stands_since : (ts : List A) → stands holds recovers ts ≡ true → Stands holds recovers ts
    stands_since [] e = wrong e
    stands_since (t ∷ ts) e = go (holds t) refl (recovers t) refl e (stands_since ts)
      where
        go : (a : Bool) → holds t ≡ a → (b : Bool) → recovers t ≡ b → cond a true (any holds (cond b [] (up_to recovers ts))) ≡ true
            → (stands holds recovers ts ≡ true → Stands holds recovers ts) → Stands holds recovers (t ∷ ts)
        go true e b f s i = record { later = []; tick = t; earlier = ts; split = refl; held = e; unrecovered = refl }
        go false e true f s i = wrong s
        go false e false f s i =
            let r = i s in
            record {
              later = t ∷ r.later;
              tick = r.tick;
              earlier = r.earlier;
              split = ap (λ (l : List A). t ∷ l) r.split;
              held = r.held;
              unrecovered = rw f r.unrecovered;
            }

    pub latched : (ts : List A) → (stands holds recovers ts ≡ true) ↔ Stands holds recovers ts
    latched ts = (stands_since ts, λ s. rw s.split (stands_later s.later s.tick s.earlier s.held s.unrecovered))

  module _ (holds : A → Bool) (wait : A → ℕ) where
    waits_later : (k : A → ℕ → Bool) (later : List A) (t : A) (earlier : List A) → holds t ≡ true → any holds later ≡ false
        → k t (length later) ≡ true
        → any (λ x. k x (ago holds (later ++ (t ∷ earlier)))) (newest holds (later ++ (t ∷ earlier))) ≡ true
    waits_later k [] t earlier e f g = rw (e, g)
    waits_later k (x ∷ later) t earlier e f g = go (holds x) f (λ f. waits_later (λ y n. k y (suc n)) later t earlier e f g)
      where
        go : (a : Bool) → cond a true (any holds later) ≡ false
            → (any holds later ≡ false → any (λ y. k y (suc (ago holds (later ++ (t ∷ earlier))))) (newest holds (later ++ (t ∷ earlier)))
            ≡ true)
            → any (λ y. k y (cond a 0 (suc (ago holds (later ++ (t ∷ earlier)))))) (cond a (x ∷ []) (newest holds (later ++ (t ∷ earlier))))
            ≡ true
        go true f i = wrong (sym f)
        go false f i = i f

    record Found (k : A → ℕ → Bool) (ts : List A) : Type 0 where
      later : List A
      tick : A
      earlier : List A
      split : ts ≡ later ++ (tick ∷ earlier)
      held : holds tick ≡ true
      without : any holds later ≡ false
      few : k tick (length later) ≡ true

    found : (k : A → ℕ → Bool) (ts : List A) → any (λ x. k x (ago holds ts)) (newest holds ts) ≡ true → Found k ts
    found k [] e = wrong e
    found k (t ∷ ts) e = go (holds t) refl e (found (λ y n. k y (suc n)) ts)
      where
        go : (a : Bool) → holds t ≡ a → any (λ x. k x (cond a 0 (suc (ago holds ts)))) (cond a (t ∷ []) (newest holds ts)) ≡ true
            → (any (λ x. k x (suc (ago holds ts))) (newest holds ts) ≡ true → Found (λ y n. k y (suc n)) ts) → Found k (t ∷ ts)
        go true e s i = record { later = []; tick = t; earlier = ts; split = refl; held = e; without = refl; few = one (k t 0) s }
          where
            one : (b : Bool) → cond b true false ≡ true → b ≡ true
            one true e = refl
            one false e = e
        go false e s i =
            let r = i s in
            record {
              later = t ∷ r.later;
              tick = r.tick;
              earlier = r.earlier;
              split = ap (λ (l : List A). t ∷ l) r.split;
              held = r.held;
              without = rw e r.without;
              few = r.few;
            }

    pub waiting : (ts : List A) → (waits holds wait ts ≡ true) ↔ Waits holds wait ts
    waiting ts = (
      λ e. let r = found (λ x n. ltb n (wait x)) ts e in
          record {
            later = r.later;
            tick = r.tick;
            earlier = r.earlier;
            split = r.split;
            held = r.held;
            without = r.without;
            few = ltb-true (length r.later) (wait r.tick) r.few;
          },
      λ s.
          rw s.split (waits_later (λ x n. ltb n (wait x)) s.later s.tick s.earlier s.held s.without
          (lt-ltb (length s.later) (wait s.tick) s.few)),
    )
