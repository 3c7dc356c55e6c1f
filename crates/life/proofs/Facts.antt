-- Lives of a pack, computed: every event ever, with the number of its tick, in the table's order within a tick.
-- Assumes nothing.
use mathlib.Core.Path.{◌≡◌, refl}
use mathlib.Core.Bool.{true, false}
use mathlib.Core.List.{List, [], ◌∷◌, ◌++◌, map, reverse}
use Prim.Native.Nat.{ℕ}
use lib.IntN.{ℤ, pos, negsuc}
use lib.ListN.{replicate}
use Rattle.settings.specs.Settings.{factory}
use Rattle.guard.specs.declared.Condition.TheVariants.{OV, OT, DOC}
use Rattle.guard.specs.Guard.{holds_of}
use Rattle.guard.specs.Table.{is, latch_event, recovery_event}
use Rattle.guard.specs.Account.{Moment}
use Rattle.life.specs.Recorded.{unrecovered, recovery, recorded_ever}

-- with those cells, that current and that external 2, all else at 20 °C
at : List ℕ → ℤ → ℤ → Moment
at cells current external2 =
    record {
      settings = factory;
      cells = cells;
      readings = record {
        current = current;
        internal = pos 200;
        external1 = pos 200;
        external2 = external2;
        pulses = 0;
        charger = false;
        ignition = false;
      };
    }

-- the events of ticks in that order, the oldest first: the tick and the event number
ever : List Moment → List (ℕ × ℕ)
ever ms = map (λ e. (e.tick, e.number)) (reverse (recorded_ever (reverse ms)))

still : Moment
still = at (37000 ∷ 37000 ∷ []) (pos 0) (pos 200)

-- two cells, one too low and one too high, with a hot sensor: three conditions latch at one tick, and recover one by one; W-204's sensor is
-- unplugged, is back and warm, and cools
together : ever (at (29000 ∷ 42000 ∷ []) (pos 0) (pos 600) ∷ at (29001 ∷ 41500 ∷ []) (pos 0) (negsuc 32767)
    ∷ at (29001 ∷ 41499 ∷ []) (pos 0) (pos 550) ∷ at (29001 ∷ 41499 ∷ []) (pos 0) (pos 549) ∷ still ∷ [])
    ≡ (1, 0x02) ∷ (1, 0x03) ∷ (1, 0x04) ∷ (2, 0x7B) ∷ (3, 0x79) ∷ (4, 0x73) ∷ []
unfolding at ever still recorded_ever recovery is holds_of latch_event recovery_event
together = refl

-- P8: r332 5, last held at tick 2: recovers at 52
drawn : Moment
drawn = at (37000 ∷ []) (negsuc 59999) (pos 200)

waited : (ever (drawn ∷ drawn ∷ replicate 49 still) ≡ (1, 0x05) ∷ [])
    × (ever (drawn ∷ drawn ∷ replicate 50 still ++ (drawn ∷ [])) ≡ (1, 0x05) ∷ (52, 0x77) ∷ (53, 0x05) ∷ [])
unfolding at ever still drawn recorded_ever recovery is holds_of latch_event recovery_event
waited = (refl, refl)

-- a latch event is later than the last recovery event of its own condition only
later : (unrecovered OV (record { tick = 2; number = 0x79 } ∷ record { tick = 1; number = 0x03 } ∷ []) ≡ false)
    × (unrecovered OV (record { tick = 2; number = 0x73 } ∷ record { tick = 1; number = 0x03 } ∷ []) ≡ true)
    × (unrecovered OT (record { tick = 3; number = 0x04 } ∷ record { tick = 2; number = 0x73 } ∷ record { tick = 1; number = 0x04 } ∷ [])
    ≡ true) × (unrecovered DOC [] ≡ false)
unfolding latch_event recovery_event
later = (refl, refl, refl, refl)
