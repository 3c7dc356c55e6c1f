-- What is kept is so, whatever comes and goes, up to 2^64 - 1 ticks: how often it came, when first and last, and the ticks at which it
-- held. proofs/Kept.antt proves `kept`, of any ticks. Assumes nothing.
use Rattle.std.specs.Prelude.{Bool, false, ◌&&◌, not, cond, List, [], ◌∷◌, ◌≡◌, ℕ, suc, ◌+◌, eqb, length}
use Rattle.spells.specs.declared.Spells.{Spells}
use Rattle.spells.specs.Spells.{no_spells, with_tick}

-- ticks so far, the latest first: whether it held at each; the first tick has the number 1
abbrev pub after : List Bool → Spells
after [] = no_spells
after (h ∷ hs) = with_tick (after hs) h (suc (length hs))

-- did it hold at the latest tick?
abbrev pub held : List Bool → Bool
held [] = false
held (h ∷ hs) = h

-- how many times it came: it held, and at the tick before it did not
abbrev pub comings : List Bool → ℕ
comings [] = 0
comings (h ∷ hs) = cond (h && not (held hs)) (comings hs + 1) (comings hs)

-- the tick at which it came last, 0 where it never came
abbrev pub last_coming : List Bool → ℕ
last_coming [] = 0
last_coming (h ∷ hs) = cond (h && not (held hs)) (suc (length hs)) (last_coming hs)

-- the tick at which it came first
abbrev pub first_coming : List Bool → ℕ
first_coming [] = 0
first_coming (h ∷ hs) = cond ((h && not (held hs)) && eqb (comings hs) 0) (suc (length hs)) (first_coming hs)

-- at how many ticks it held
abbrev pub ticks_held : List Bool → ℕ
ticks_held [] = 0
ticks_held (h ∷ hs) = cond h (ticks_held hs + 1) (ticks_held hs)

-- what is kept once the last spell is over, at a tick more, at which it does not hold
pub record Kept (hs : List Bool) : Type 0 where
  pub count : (after (false ∷ hs)).count ≡ comings hs
  pub ticks : (after (false ∷ hs)).ticks ≡ ticks_held hs
  pub first : (after (false ∷ hs)).first ≡ first_coming hs
  pub last : (after (false ∷ hs)).last ≡ last_coming hs
