-- A loop that takes bytes until a frame is complete: what it has after i turns leads, with what is left, to the definition.
-- Assumes nothing.
use mathlib.Core.Path.{◌≡◌, refl, ap}
use mathlib.Core.Bool.{Bool, true, false, cond}
use mathlib.Core.List.{List}
use Prim.Native.Nat.{ℕ, ◌+◌, ◌<◌, ◌≤◌}
use native.Mathlib.Numerals.{add-one}
use native.Mathlib.Omega.{arith}
use lib.ListN.{length, drop, get_or, drop_of_length-le}
use lib.Seq.{drop-cons}
use Rattle.refusals.specs.declared.Refusal.TheVariants.{FrameHeld}
use Rattle.refusals.specs.Refusals.{Done, Refused, first}
use Rattle.receiver.specs.declared.Receiver.{Receiver}
use Rattle.receiver.specs.declared.Offered.{Offered}
use Rattle.receiver.specs.Receiver.{is_held, with_byte, filled, taken, offered_by, offered_of}

abbrev pub done : ℕ → Receiver → Offered
done i r = record { outcome = Done; taken = i; receiver = r }

-- an offer while no frame is held
pub free : (r : Receiver) (bytes : List ℕ) → is_held r ≡ false → offered_of r bytes ≡ done (taken r bytes) (filled r bytes)
unfolding offered_of first
free r bytes e = ap (λ (t : Bool). offered_by (cond t (Refused FrameHeld) Done) r bytes) e

-- from r₀ on, i bytes of xs are taken, and r is what they make
pub record Filling (r₀ r : Receiver) (xs : List ℕ) (i : ℕ) : Type 0 where
  pub within : i ≤ length xs
  pub held : filled r (drop i xs) ≡ filled r₀ xs
  pub count : i + taken r (drop i xs) ≡ taken r₀ xs

-- r is what the definition holds, and i is what it takes
pub record Full (r₀ r : Receiver) (xs : List ℕ) (i : ℕ) : Type 0 where
  pub held : r ≡ filled r₀ xs
  pub count : i ≡ taken r₀ xs

pub begun : {r : Receiver} {xs : List ℕ} → Filling r r xs 0
begun {r} {xs} = record { within = omega arith; held = refl; count = omega arith }

pub next : {r₀ r r' : Receiver} {xs : List ℕ} {i : ℕ} → Filling r₀ r xs i → i < length xs → is_held r ≡ false
    → r' ≡ with_byte r (get_or xs i 0) → Filling r₀ r' xs (i + 1)
next {r₀} {r} {r'} {xs} {i} f h w e =
    record {
      within = omega arith;
      held = rw (add-one, e) (rw (drop-cons xs i 0, w) at f.held);
      count = let k = rw (drop-cons xs i 0, w) at f.count in rw (add-one, e) (omega (arith, k));
    }

pub stopped : {r₀ r : Receiver} {xs : List ℕ} {i : ℕ} → Filling r₀ r xs i → i < length xs → is_held r ≡ true → Full r₀ r xs i
stopped {r₀} {r} {xs} {i} f h w =
    record {
      held = rw (drop-cons xs i 0, w) at f.held;
      count = let k = rw (drop-cons xs i 0, w) at f.count in omega (arith, k);
    }

pub ended : {r₀ r : Receiver} {xs : List ℕ} {i : ℕ} → Filling r₀ r xs i → length xs ≤ i → Full r₀ r xs (length xs)
ended {r₀} {r} {xs} {i} f h =
    record {
      held = rw drop_of_length-le at f.held;
      count = let k = rw drop_of_length-le at f.count in omega (arith, k, f.within);
    }
