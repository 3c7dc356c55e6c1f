-- Two spells, one of a tick and one of two; and one that has not gone: computed. Assumes nothing.
use mathlib.Core.Bool.{true, false}
use mathlib.Core.List.{[], ◌∷◌}
use mathlib.Core.Path.{◌≡◌, refl}
use Rattle.spells.specs.Spells.{with_tick}
use Rattle.spells.specs.Laws.{after, comings, first_coming, last_coming, ticks_held}

-- at ticks 2, 4 and 5 of six
two : after (false ∷ true ∷ true ∷ false ∷ true ∷ false ∷ []) ≡ record { count = 2; ticks = 3; first = 2; last = 4; holds = false }
unfolding with_tick
two = refl

counted : (comings (false ∷ true ∷ true ∷ false ∷ true ∷ false ∷ []) ≡ 2)
    × (first_coming (false ∷ true ∷ true ∷ false ∷ true ∷ false ∷ []) ≡ 2)
    × (last_coming (false ∷ true ∷ true ∷ false ∷ true ∷ false ∷ []) ≡ 4)
    × (ticks_held (false ∷ true ∷ true ∷ false ∷ true ∷ false ∷ []) ≡ 3)
counted = (refl, refl, refl, refl)

-- at ticks 1 to 3 of three: its ticks are counted once it is over
lasting : after (true ∷ true ∷ true ∷ []) ≡ record { count = 1; ticks = 0; first = 1; last = 1; holds = true }
unfolding with_tick
lasting = refl
