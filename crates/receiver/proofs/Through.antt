-- Offers and fetches in any order come to what the bytes one by one come to, the receiver's array included: what an offer takes it takes
-- byte by byte, and a frame that is held is answered before the next byte is taken.
-- Assumes nothing.
use mathlib.Core.Path.{◌≡◌, refl, sym, ap, ◌∙◌}
use mathlib.Core.Bool.{Bool, true, false, cond}
use mathlib.Core.List.{List, [], ◌∷◌}
use Prim.Native.Nat.{ℕ, zero, suc}
use lib.Dec.{ltb}
use lib.ListN.{take, drop}
use Rattle.refusals.specs.Refusals.{first}
use Rattle.requests.specs.Requests.{expected_of, length_of}
use Rattle.receiver.specs.declared.Receiver.{Receiver}
use Rattle.receiver.specs.Receiver.{no_bytes, held_of, is_held, with_byte, filled, taken, offered_of}
use Rattle.receiver.specs.Line.{Turn, offers, fetches, Line, still, heard, ran, Ended}

pub none_held : is_held no_bytes ≡ false
unfolding is_held length_of expected_of
none_held = refl

module _ {S Reply : Type 0} (answer : S → List ℕ → S × Reply) where
  -- byte by byte, each frame answered as soon as it is complete
  abbrev pub through : S → Receiver → List ℕ → Line S Reply
  through s r [] = cond (is_held r) (heard (answer s (held_of r)).1 (still (answer s (held_of r)).0 no_bytes [])) (still s r [])
  through s r (b ∷ bs) =
      cond (is_held r)
      (heard (answer s (held_of r)).1 (through (answer s (held_of r)).0 (with_byte no_bytes b) bs))
      (through s (with_byte r b) bs)

  -- what an offer takes is taken as the bytes one by one would be
  poured : (s : S) (n : ℕ) (bs : List ℕ) (r : Receiver) → through s r bs ≡ through s (filled r (take n bs)) (drop (taken r (take n bs)) bs)
  poured s zero bs r = refl
  poured s (suc n) [] r = refl
  poured s (suc n) (b ∷ bs) r = go (is_held r) refl (poured s n bs (with_byte r b))
    where
      next : Receiver
      next = filled (with_byte r b) (take n bs)

      more : ℕ
      more = taken (with_byte r b) (take n bs)

      go : (t : Bool) → is_held r ≡ t → through s (with_byte r b) bs ≡ through s next (drop more bs)
          → through s r (b ∷ bs) ≡ through s (cond t r next) (drop (cond t 0 (suc more)) (b ∷ bs))
      go true e i = refl
      go false e i = rw e i

  after_offer : (s : S) (n : ℕ) (bs : List ℕ) (r : Receiver)
      → through s r bs ≡ through s (offered_of r (take n bs)).receiver (drop (offered_of r (take n bs)).taken bs)
  unfolding offered_of first
  after_offer s n bs r = go (is_held r) refl
    where
      go : (t : Bool) → is_held r ≡ t
          → through s r bs ≡ through s (offered_of r (take n bs)).receiver (drop (offered_of r (take n bs)).taken bs)
      go true e = rw e
      go false e = rw e (poured s n bs r)

  -- a frame that is held is answered first
  pub after_fetch : (s : S) (bs : List ℕ) (r : Receiver) → is_held r ≡ true
      → through s r bs ≡ heard (answer s (held_of r)).1 (through (answer s (held_of r)).0 no_bytes bs)
  after_fetch s [] r e = rw (e, none_held)
  after_fetch s (b ∷ bs) r e = rw (e, none_held)

  -- whatever the turns, if no byte is left and no frame is held
  abbrev pub Same : List Turn → S → Receiver → List ℕ → Type 0
  Same turns s r bs = Ended (ran answer turns s r bs) → ran answer turns s r bs ≡ through s r bs

  pub same : (turns : List Turn) (s : S) (r : Receiver) (bs : List ℕ) → Same turns s r bs
  same [] s r bs e = rw (e.0, e.1)
  same (offers n ∷ turns) s r bs e =
      same turns s (offered_of r (take n bs)).receiver (drop (offered_of r (take n bs)).taken bs) e ∙ sym (after_offer s n bs r)
  same (fetches n ∷ turns) s r bs e =
      go (ltb n 259) refl (is_held r) refl (same turns (answer s (held_of r)).0 no_bytes bs) (same turns s r bs) e
    where
      go : (u : Bool) → ltb n 259 ≡ u → (t : Bool) → is_held r ≡ t → Same turns (answer s (held_of r)).0 no_bytes bs
          → Same turns s r bs → Same (fetches n ∷ turns) s r bs
      go true d t e i j = rw d j
      go false d true e i j = rw (d, e) (λ x. ap (heard (answer s (held_of r)).1) (i x) ∙ sym (after_fetch s bs r e))
      go false d false e i j = rw (d, e) j
