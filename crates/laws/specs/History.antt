-- A history is a list, the newest first; a moment is the history up to it. What is shown at a moment is a function of it.
-- Assumes nothing.
use Rattle.std.specs.Prelude.{◌≡◌, Bool, true, false, ◌&&◌, ◌||◌, not, cond, List, [], ◌∷◌, ◌++◌, ℕ, zero, suc, ◌+◌, ◌<◌, max, ltb, length, take}
use Rattle.laws.specs.Fold.{bit_of}

module _ {C : Type 0} where
  -- no call
  abbrev pub never : C → Bool
  never c = false

  -- the moments since the last call of a kind, the newest first; a moment is the history up to it
  abbrev pub since : (C → Bool) → List C → List (List C)
  since reset [] = []
  since reset (c ∷ h) = cond (reset c) [] ((c ∷ h) ∷ since reset h)

  -- the moment of the last call of a kind; the start, if there was none
  abbrev pub from : (C → Bool) → List C → List C
  from reset [] = []
  from reset (c ∷ h) = cond (reset c) (c ∷ h) (from reset h)

-- what each of them gives, all in one list
abbrev pub each : {A B : Type 0} → (A → List B) → List A → List B
each what [] = []
each what (x ∷ xs) = what x ++ each what xs

-- the largest; 0 if there is none
abbrev pub largest : List ℕ → ℕ
largest [] = 0
largest (x ∷ xs) = max x (largest xs)

module _ {A : Type 0} where
  -- of all of them together
  abbrev pub sum : (A → ℕ) → List A → ℕ
  sum g [] = 0
  sum g (x ∷ xs) = g x + sum g xs

  -- how many of them pass
  abbrev pub count : (A → Bool) → List A → ℕ
  count p xs = sum (λ a. bit_of (p a)) xs

  -- the first of them, or z
  abbrev pub head_or : A → List A → A
  head_or z [] = z
  head_or z (x ∷ xs) = x

  -- is there one?
  abbrev pub some : List A → Bool
  some [] = false
  some (x ∷ xs) = true

  -- does one of them pass?
  abbrev pub any : (A → Bool) → List A → Bool
  any p [] = false
  any p (x ∷ xs) = cond (p x) true (any p xs)

  -- from the newest back to the first that passes, with it
  abbrev pub up_to : (A → Bool) → List A → List A
  up_to p [] = []
  up_to p (x ∷ xs) = x ∷ cond (p x) [] (up_to p xs)

  -- the newest that passes, if any does
  abbrev pub newest : (A → Bool) → List A → List A
  newest p [] = []
  newest p (x ∷ xs) = cond (p x) (x ∷ []) (newest p xs)

  -- how many are newer than the newest that passes
  abbrev pub ago : (A → Bool) → List A → ℕ
  ago p [] = 0
  ago p (x ∷ xs) = cond (p x) 0 (suc (ago p xs))

  -- the latest n, the oldest of them first; z for each that is missing
  abbrev pub latest : ℕ → A → List A → List A
  latest zero z xs = []
  latest (suc n) z [] = latest n z [] ++ (z ∷ [])
  latest (suc n) z (x ∷ xs) = latest n z xs ++ (x ∷ [])

  -- latched: it held at a tick, and no later one recovered it
  abbrev pub stands : (A → Bool) → (A → Bool) → List A → Bool
  stands holds recovers ts = any holds (up_to recovers ts)

  -- latched with a wait: it held at a tick, and since the latest such tick there were fewer than its wait
  abbrev pub waits : (A → Bool) → (A → ℕ) → List A → Bool
  waits holds wait ts = any (λ t. ltb (ago holds ts) (wait t)) (newest holds ts)

  -- where a recovery asks of all ticks since it latched: it held at the oldest of these ticks, and at each later one it held or was not
  -- recovered, by those up to then
  abbrev pub unbroken : (A → Bool) → (List A → Bool) → List A → Bool
  unbroken holds recovers [] = false
  unbroken holds recovers (t ∷ []) = holds t
  unbroken holds recovers (t ∷ u ∷ ts) = unbroken holds recovers (u ∷ ts) && (holds t || not (recovers (t ∷ u ∷ ts)))

  -- the longest of the newest n, or fewer, that passes; none if none does
  abbrev pub longest : (List A → Bool) → ℕ → List A → List A
  longest p zero ts = []
  longest p (suc n) ts = cond (p (take (suc n) ts)) (take (suc n) ts) (longest p n ts)

  -- the ticks since it latched, that tick included; none if it is not latched. (A shorter stretch is one from a tick at which it held
  -- again)
  abbrev pub since_latched : (A → Bool) → (List A → Bool) → List A → List A
  since_latched holds recovers ts = longest (unbroken holds recovers) (length ts) ts

  -- the same in the words of the paper: a tick at which it held, such that no later tick recovered it
  pub record Stands (holds recovers : A → Bool) (ts : List A) : Type 0 where
    pub later : List A
    pub tick : A
    pub earlier : List A
    pub split : ts ≡ later ++ (tick ∷ earlier)
    pub held : holds tick ≡ true
    pub unrecovered : any recovers later ≡ false

  -- the latest tick at which it held, with fewer than its wait of ticks after it
  pub record Waits (holds : A → Bool) (wait : A → ℕ) (ts : List A) : Type 0 where
    pub later : List A
    pub tick : A
    pub earlier : List A
    pub split : ts ≡ later ++ (tick ∷ earlier)
    pub held : holds tick ≡ true
    pub without : any holds later ≡ false
    pub few : length later < wait tick

  -- the tick at which it latched: it held, and was not latched before. Those since, with it, are the ticks since it latched
  pub record SinceLatched (holds : A → Bool) (recovers : List A → Bool) (ts : List A) : Type 0 where
    pub later : List A
    pub tick : A
    pub earlier : List A
    pub split : ts ≡ later ++ (tick ∷ earlier)
    pub held : holds tick ≡ true
    pub before : since_latched holds recovers earlier ≡ []
    pub since : since_latched holds recovers ts ≡ later ++ (tick ∷ [])

module _ {A S : Type 0} where
  -- the oldest first
  abbrev pub pour : (S → A → S) → S → List A → S
  pour f z [] = z
  pour f z (x ∷ xs) = f (pour f z xs) x
