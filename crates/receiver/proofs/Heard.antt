-- The receiver that is stepped byte by byte is the one that the bytes it heard tell of; and what it holds is what they tell.
-- Assumes nothing.
use mathlib.Core.Path.{◌≡◌, refl, sym, ap, ap₂, ◌∙◌}
use mathlib.Core.Bool.{Bool, true, false, cond, not}
use mathlib.Core.List.{List, [], ◌∷◌, ◌++◌, append-nil}
use Prim.Native.Nat.{ℕ, suc, ◌≤◌}
use native.Mathlib.Nat.{not-suc-le-zero}
use native.Mathlib.Omega.{arith}
use lib.Dec.{eqb}
use lib.ListN.{length, take, drop, get_or, length-append}
use lib.Seq.{take-append_seam, drop-append-add, drop-drop, append_snoc}
use borrow.Author.Tests.{ne_eqb, leb-true, le-ltb}
use Rattle.requests.specs.Requests.{length_of, foreign}
use Rattle.requests.proofs.Lengths.{least_of}
use Rattle.receiver.specs.declared.Receiver.{Receiver}
use Rattle.receiver.specs.Receiver.{no_bytes, held_of, holding, complete, is_held, skips, with_byte, filled, taken}
use Rattle.receiver.specs.Heard.{begun, takes, after_hearing}

-- what it holds
pub held : (heard : List ℕ) → held_of (after_hearing heard) ≡ begun heard
held heard = take-append_seam (begun heard) _

pub is_held_lem : (heard : List ℕ) → is_held (after_hearing heard) ≡ complete (begun heard)
unfolding is_held
is_held_lem heard = ap complete (held heard)

-- ---- one byte more

-- once a frame has begun, the byte is behind it; before that it begins one or is skipped
abbrev with_more : List ℕ → ℕ → List ℕ
with_more held b = cond (skips held b) held (held ++ (b ∷ []))

begun_more : (heard : List ℕ) (b : ℕ) → begun (heard ++ (b ∷ [])) ≡ with_more (begun heard) b
begun_more [] b = go (eqb b 0xAA)
  where
    go : (t : Bool) → cond t (b ∷ []) [] ≡ cond (not t) [] (b ∷ [])
    go true = refl
    go false = refl
begun_more (x ∷ heard) b = go (eqb x 0xAA) (begun_more heard b)
  where
    go : (t : Bool) → begun (heard ++ (b ∷ [])) ≡ with_more (begun heard) b
        → cond t (x ∷ heard ++ (b ∷ [])) (begun (heard ++ (b ∷ []))) ≡ with_more (cond t (x ∷ heard) (begun heard)) b
    go true i = rw (ne_eqb (suc (length heard)) 0 (λ z. omega arith)) refl
    go false i = i

-- what stands behind stays
behind : (xs zs : List ℕ) (b : ℕ) → drop (length (xs ++ (b ∷ []))) (xs ++ drop (length xs) zs) ≡ drop (length (xs ++ (b ∷ []))) zs
behind xs zs b =
    rw (length-append xs (b ∷ [])) (drop-append-add xs (drop (length xs) zs) 1 ∙ drop-drop 1 (length xs) zs)

longer : (xs : List ℕ) (b : ℕ) (r : Receiver) → holding (xs ++ (b ∷ [])) (holding xs r) ≡ holding (xs ++ (b ∷ [])) r
longer xs b r = ap (λ (zs : List ℕ). record { bytes = (xs ++ (b ∷ [])) ++ zs; count = length (xs ++ (b ∷ [])) }) (behind xs r.bytes b)

pub one_more : (heard : List ℕ) (b : ℕ) → with_byte (after_hearing heard) b ≡ after_hearing (heard ++ (b ∷ []))
unfolding with_byte
one_more heard b =
    ap (λ (h : List ℕ). cond (skips h b) (after_hearing heard) (holding (h ++ (b ∷ [])) (after_hearing heard))) (held heard)
    ∙ go (skips (begun heard) b) (begun_more heard b)
  where
    go : (t : Bool) → begun (heard ++ (b ∷ [])) ≡ cond t (begun heard) (begun heard ++ (b ∷ []))
        → cond t (after_hearing heard) (holding (begun heard ++ (b ∷ [])) (after_hearing heard)) ≡ after_hearing (heard ++ (b ∷ []))
    go true e = ap (λ (h : List ℕ). holding h no_bytes) (sym e)
    go false e = longer (begun heard) b no_bytes ∙ ap (λ (h : List ℕ). holding h no_bytes) (sym e)

-- ---- many bytes

-- what is heard bit by bit is heard as the whole
abbrev pub hearing : Receiver → List ℕ → Receiver
hearing r [] = r
hearing r (b ∷ bs) = hearing (with_byte r b) bs

pub heard_all : (bs heard : List ℕ) → hearing (after_hearing heard) bs ≡ after_hearing (heard ++ bs)
heard_all [] heard = ap after_hearing (sym (append-nil heard))
heard_all (b ∷ bs) heard =
    ap (λ (r : Receiver). hearing r bs) (one_more heard b) ∙ heard_all bs (heard ++ (b ∷ [])) ∙ ap after_hearing (append_snoc heard b bs)

-- an offer hears what it takes, and no more
pub heard_taken : (bs : List ℕ) (r : Receiver) → filled r bs ≡ hearing r (take (taken r bs) bs)
heard_taken [] r = refl
heard_taken (b ∷ bs) r = go (is_held r) (heard_taken bs (with_byte r b))
  where
    go : (t : Bool) → filled (with_byte r b) bs ≡ hearing (with_byte r b) (take (taken (with_byte r b) bs) bs)
        → cond t r (filled (with_byte r b) bs) ≡ hearing r (take (cond t 0 (suc (taken (with_byte r b) bs))) (b ∷ bs))
    go true i = refl
    go false i = i

-- as many as the bytes tell
pub as_many : (bs heard : List ℕ) → taken (after_hearing heard) bs ≡ takes heard bs
as_many [] heard = refl
as_many (b ∷ bs) heard =
    ap₂ (λ (t : Bool) (n : ℕ). cond t 0 (suc n)) (is_held_lem heard)
    (ap (λ (r : Receiver). taken r bs) (one_more heard b) ∙ as_many bs (heard ++ (b ∷ [])))

-- ---- a complete frame is ours: it begins with 0xAA and has four bytes at least

begins : (heard : List ℕ) → 1 ≤ length (begun heard) → eqb (get_or (begun heard) 0 0) 0xAA ≡ true
begins [] h = absurd (not-suc-le-zero h)
begins (b ∷ heard) h = go (eqb b 0xAA) refl h (begins heard)
  where
    go : (t : Bool) → eqb b 0xAA ≡ t → 1 ≤ length (cond t (b ∷ heard) (begun heard))
        → (1 ≤ length (begun heard) → eqb (get_or (begun heard) 0 0) 0xAA ≡ true)
        → eqb (get_or (cond t (b ∷ heard) (begun heard)) 0 0) 0xAA ≡ true
    go true e h i = e
    go false e h i = i h

pub ours : (heard : List ℕ) → complete (begun heard) ≡ true → foreign (begun heard) ≡ false
ours heard e =
    let l = leb-true (length_of (begun heard)) (length (begun heard)) e in
    let four : 4 ≤ length (begun heard) = omega (arith, least_of (begun heard)) in
    rw (le-ltb (length (begun heard)) 4 four, begins heard (omega arith))
