-- What the receiver's array holds at its front, and how a store there reads. Assumes nothing.
use mathlib.Core.Path.{◌≡◌, refl, sym, ap, ap₂, ◌∙◌}
use mathlib.Core.Bool.{false}
use mathlib.Core.List.{List, [], ◌∷◌, ◌++◌, map}
use Prim.Native.Nat.{ℕ, zero, suc, ◌+◌, ◌<◌, ◌≤◌, min}
use native.Mathlib.Omega.{arith}
use lib.ListN.{length, take, drop, set, length-append, length-map, length-take}
use lib.Seq.{set_split, append_snoc, length-take-le}
use Rattle.receiver.specs.declared.Receiver.{Receiver}
use Rattle.receiver.specs.Receiver.{held_of, holding, is_held, offered_of}
use Rattle.receiver.proofs.Filling.{Full, done, free}

-- what owning an array tells of its list
pub length_from : (A B : Type 0) (f : A → B) (l : List A) (n : ℕ) → length (map f l) ≡ n → length l ≡ n
length_from A B f l n e = sym (length-map l f) ∙ e

retaken : (k : ℕ) (l : List ℕ) → take (length (take k l)) l ≡ take k l
retaken zero l = refl
retaken (suc k) [] = refl
retaken (suc k) (x ∷ l) = ap (λ (t : List ℕ). x ∷ t) (retaken k l)

-- a count past the array means all of it
pub held_length : (l : List ℕ) (count n : ℕ) → n ≡ min count (length l) → n ≡ length (take count l)
held_length l count n e = e ∙ sym (length-take count l)

-- the first n bytes of the array are what is held
pub front : (r : Receiver) (n : ℕ) → n ≡ length (held_of r) → take n r.bytes ≡ held_of r
front r n e = ap (λ (m : ℕ). take m r.bytes) e ∙ retaken r.count r.bytes

pub within : (r : Receiver) (n : ℕ) → n ≡ length (held_of r) → n ≤ length r.bytes
within r n e = let h = simp length-take at e in omega arith

pub front_length : (r : Receiver) (n : ℕ) → n ≡ length (held_of r) → n ≡ length (take n r.bytes)
front_length r n e = sym (length-take-le n r.bytes (within r n e))

abbrev pub receiver : List ℕ → ℕ → Receiver
receiver l n = record { bytes = l; count = n }

-- a byte stored at the first place after what is held
pub stored : (r : Receiver) (b n : ℕ) → n ≡ length (held_of r) → n < length r.bytes
    → receiver (set r.bytes n b) (n + 1) ≡ holding (held_of r ++ (b ∷ [])) r
stored r b n e h =
    let s : suc n ≡ length (held_of r ++ (b ∷ [])) = simp length-append (omega arith) in
    let k : n + 1 ≡ length (held_of r ++ (b ∷ [])) = omega arith in
    ap₂ receiver
    (set_split r.bytes n b h
    ∙ ap (λ (t : List ℕ). t ++ b ∷ drop (suc n) r.bytes) (front r n e)
    ∙ sym (append_snoc (held_of r) b (drop (suc n) r.bytes))
    ∙ ap (λ (m : ℕ). (held_of r ++ (b ∷ [])) ++ drop m r.bytes) s)
    k

-- an offer that ends as the definition does
pub offered : {r₀ r : Receiver} {xs : List ℕ} {i : ℕ} → Full r₀ r xs i → is_held r₀ ≡ false
    → done i r ≡ offered_of r₀ xs
offered {r₀} {r} {xs} f w = ap₂ done f.count f.held ∙ sym (free r₀ xs w)
