-- The length rule may be read off a request's first bytes: they are complete exactly if the rule says so with all the bytes in view, and
-- then it says the same length. For a length is more than has come until the byte that decides it has come.
-- Assumes nothing.
use mathlib.Core.Path.{◌≡◌, refl, sym, ap, ◌∙◌}
use mathlib.Core.Bool.{Bool, true, false, cond}
use mathlib.Core.List.{List, [], ◌∷◌, ◌++◌}
use Prim.Native.Nat.{ℕ, ◌+◌, ◌<◌, ◌≤◌}
use native.Mathlib.Omega.{arith}
use lib.Dec.{eqb, leb, ltb}
use lib.ListN.{length, get_or, get_or-append}
use borrow.Author.Tests.{ltb-true, ltb-false, lt-leb}
use Rattle.requests.specs.declared.Command.{Command}
use Rattle.requests.specs.declared.Expected.{Expected}
use Rattle.requests.specs.Requests.{expect, expected_of, length_of}
use Rattle.requests.proofs.Sound.{least}

-- two lengths of a request of which k bytes have come: they are equal, or neither is reached
data Agree (k m n : ℕ) : Type 0 where
  equal : m ≡ n → Agree k m n
  beyond : k < m → k < n → Agree k m n

-- what is expected by the bytes that have come agrees with what is expected by more
record Readable (e : List ℕ → Expected) : Type 0 where
  agree : (held bs : List ℕ) → Agree (length held) (e held).length (e (held ++ bs)).length

-- ---- of a known command

-- no further byte decides
fixed : {e : Expected} → Readable (λ bytes. e)
fixed = record { agree = λ held bs. equal refl }

-- the length is n more than a byte: until that has come, fewer than n have
counted : (n at : ℕ) {c : Command} → at < n → Readable (λ bytes. expect (n + get_or bytes at 0) c)
counted n at h = record { agree = λ held bs. go held bs (ltb at (length held)) refl }
  where
    go : (held bs : List ℕ) (t : Bool) → ltb at (length held) ≡ t → Agree (length held) (n + get_or held at 0) (n + get_or (held ++ bs) at 0)
    go held bs true e = equal (rw (get_or-append held bs 0 at (ltb-true at (length held) e)))
    go held bs false e = let l = ltb-false at (length held) e in beyond (omega arith) (omega arith)

either : (t : Bool) {x y : List ℕ → Expected} → Readable x → Readable y → Readable (λ bytes. cond t (x bytes) (y bytes))
either true f g = f
either false f g = g

expected : (c : ℕ) → Readable (λ bytes. expected_of c (get_or bytes 2 0) (get_or bytes 6 0))
unfolding expected_of
expected c =
    either (eqb c 0x02) fixed
    (either (eqb c 0x03) fixed
    (either (eqb c 0x07) fixed
    (either (eqb c 0x09) (counted 5 2 (omega arith))
    (either (eqb c 0x0B) (counted 5 2 (omega arith))
    (either (eqb c 0x0D) (counted 5 2 (omega arith))
    (either (eqb c 0x10) (counted 9 6 (omega arith)) fixed))))))

-- ---- of any bytes: until the second has come, fewer than 4 have

pub least_of : (bytes : List ℕ) → 4 ≤ length_of bytes
unfolding length_of
least_of bytes = least (get_or bytes 1 0) (get_or bytes 2 0) (get_or bytes 6 0)

agree_of : (held bs : List ℕ) → Agree (length held) (length_of held) (length_of (held ++ bs))
unfolding length_of
agree_of [] bs = beyond (omega (arith, least_of [])) (omega (arith, least_of bs))
agree_of (a ∷ []) bs = beyond (omega (arith, least_of (a ∷ []))) (omega (arith, least_of (a ∷ bs)))
agree_of (a ∷ c ∷ held) bs = (expected c).agree (a ∷ c ∷ held) bs

pub prefix : (held bs : List ℕ) → leb (length_of held) (length held) ≡ leb (length_of (held ++ bs)) (length held)
prefix held bs = go (agree_of held bs)
  where
    go : {k m n : ℕ} → Agree k m n → leb m k ≡ leb n k
    go {k} (equal e) = ap (λ (l : ℕ). leb l k) e
    go {k} {m} {n} (beyond g h) = lt-leb m k g ∙ sym (lt-leb n k h)

-- once a request is complete, no further byte changes its length
pub settled : (held bs : List ℕ) → length_of held ≤ length held → length_of held ≡ length_of (held ++ bs)
settled held bs = go (agree_of held bs)
  where
    go : {k m n : ℕ} → Agree k m n → m ≤ k → m ≡ n
    go (equal e) h = e
    go (beyond f g) h = omega arith
