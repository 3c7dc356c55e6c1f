-- 63 events keep the latest 62; 0x11's mark; event time past 2^24 seconds; saved areas, and areas damaged in each way: computed.
-- Assumes nothing.
use Rattle.std.specs.Prelude.{Ok, Err}
use mathlib.Core.Path.{◌≡◌, refl}
use mathlib.Core.List.{List, [], ◌∷◌, ◌++◌}
use Prim.Native.Nat.{ℕ, zero, suc, ◌+◌, ◌-◌, ◌%◌}
use native.Mathlib.Omega.{arith}
use lib.ListN.{length, take, drop, replicate}
use Rattle.laws.specs.Fold.{shifted}
use Rattle.events.specs.declared.Events.{Events}
use Rattle.refusals.specs.declared.Refusal.TheVariants.{WrongArea, UsedAfterUnused, NeverRecorded}
use Rattle.refusals.specs.Refusals.{Outcome, Done, Refused, first}
use Rattle.events.specs.Area.{area_length, area_of, save_rows, is_recorded, records_in, used_of, parted, load_rows, events_in, load_of}
use Rattle.events.specs.Area.{kept_after}
use Rattle.events.specs.Events.{capacity, event_at, time_of, number_of, latest, kept_of, new_of, no_events, add_of, sent_of, placed}

-- n events, the k-th with the number k and k seconds
events : ℕ → Events
events zero = no_events
events (suc n) = add_of (events n) (suc n) (suc n)

-- 62 events are all kept; of 63 the first is gone
sixty_two : (length (kept_of (events 62)) ≡ 62) × (placed (kept_of (events 62)) 0 ≡ event_at 1 1)
    × (placed (kept_of (events 62)) 61 ≡ event_at 62 62)
unfolding events no_events add_of latest shifted
sixty_two = (refl, refl, refl)

sixty_three : (length (kept_of (events 63)) ≡ 62) × (placed (kept_of (events 63)) 0 ≡ event_at 2 2)
    × (placed (kept_of (events 63)) 61 ≡ event_at 63 63)
unfolding events no_events add_of latest shifted
sixty_three = (refl, refl, refl)

-- sent, then two more: five kept, two new
marked : (length (kept_of (add_of (add_of (sent_of (events 3)) 4 4) 5 5)) ≡ 5)
    × (new_of (add_of (add_of (sent_of (events 3)) 4 4) 5 5) ≡ event_at 4 4 ∷ event_at 5 5 ∷ [])
unfolding events no_events add_of sent_of latest shifted
marked = (refl, refl)

-- 2^24 + 1 seconds are 1; event 0x64 there is the bytes 01 00 00 64
wrapped : (event_at 16777217 0x64).bytes ≡ 0x64000001
wrapped = refl

-- time and number are read back from the bytes
read_back : (seconds number : ℕ) → (time_of (event_at seconds number) ≡ seconds % 16777216) × (number_of (event_at seconds number) ≡ number)
read_back seconds number = (omega arith, omega arith)

-- ---- saved and loaded (W-205)

-- no event yet: all 0xFF
saved_none : area_of no_events ≡ replicate area_length 0xFF
unfolding area_of no_events latest
saved_none = refl

-- two events, the second past 2^16 seconds; then unused records
saved_two : area_of (add_of (add_of no_events 5 0x64) 0x030201 0x02)
    ≡ 0x05 ∷ 0x00 ∷ 0x00 ∷ 0x64 ∷ 0x01 ∷ 0x02 ∷ 0x03 ∷ 0x02 ∷ replicate (area_length - 8) 0xFF
unfolding area_of no_events add_of latest shifted
saved_two = refl

-- all places kept, and one more recorded: no record is unused, and the first is the second of all
saved_all : (take 4 (area_of (events capacity)) ≡ 1 ∷ 0 ∷ 0 ∷ 1 ∷ [])
    × (drop (area_length - 4) (area_of (events capacity)) ≡ capacity ∷ 0 ∷ 0 ∷ capacity ∷ [])
    × (take 4 (area_of (events (capacity + 1))) ≡ 2 ∷ 0 ∷ 0 ∷ 2 ∷ []) × (length (area_of (events (capacity + 1))) ≡ area_length)
unfolding area_of events no_events add_of latest shifted
saved_all = (refl, refl, refl, refl)

-- nothing is marked: a save leaves two new, and a load marks them as sent
area : List ℕ
area = area_of (add_of (add_of no_events 5 0x64) 6 0x02)

loaded_two : load_of area ≡ Ok (sent_of (add_of (add_of no_events 5 0x64) 6 0x02))
unfolding area area_of no_events add_of sent_of latest shifted records_in used_of parted is_recorded load_rows first load_of
loaded_two = refl

-- what a load comes to
load : List ℕ → Outcome
load bytes = first (load_rows bytes)

-- 31: of no byte, one too few, one too many; an old area too
wrong_length : (load [] ≡ Refused WrongArea) × (load (replicate 247 0xFF) ≡ Refused WrongArea)
    × (load (replicate 249 0xFF) ≡ Refused WrongArea) × (load (replicate 248 0xFF) ≡ Done)
    × (load (replicate 191 0xFF) ≡ Refused WrongArea) × (load (replicate 193 0xFF) ≡ Refused WrongArea) × (load (replicate 192 0xFF) ≡ Done)
unfolding records_in parted is_recorded load_rows first load
wrong_length = (refl, refl, refl, refl, refl, refl, refl)

-- an area is saved into 248 bytes, and into no old area
saved_length : (first (save_rows 248) ≡ Done) × (first (save_rows 192) ≡ Refused WrongArea)
unfolding first
saved_length = (refl, refl)

-- an old area: its two events, and the unused records after them
old_area : List ℕ
old_area = 5 ∷ 0 ∷ 0 ∷ 0x64 ∷ 6 ∷ 0 ∷ 0 ∷ 0x02 ∷ replicate 184 0xFF

old_two : load_of old_area ≡ Ok (sent_of (add_of (add_of no_events 5 0x64) 6 0x02))
unfolding old_area events no_events add_of sent_of shifted records_in used_of parted is_recorded load_rows first load_of
old_two = refl

-- an area of these bytes, and 0xFF behind them
filled : List ℕ → List ℕ
filled bytes = bytes ++ replicate (area_length - length bytes) 0xFF

-- 32: a used record after an unused one, also where one is of a number that is never recorded
damaged : (load (filled (0xFF ∷ 0xFF ∷ 0xFF ∷ 0xFF ∷ 5 ∷ 0 ∷ 0 ∷ 0x64 ∷ [])) ≡ Refused UsedAfterUnused)
    × (load (filled (5 ∷ 0 ∷ 0 ∷ 0x01 ∷ 0xFF ∷ 0xFF ∷ 0xFF ∷ 0xFF ∷ 5 ∷ 0 ∷ 0 ∷ 0x64 ∷ [])) ≡ Refused UsedAfterUnused)
    × (load (replicate (area_length - 4) 0xFF ++ (5 ∷ 0 ∷ 0 ∷ 0x01 ∷ [])) ≡ Refused UsedAfterUnused)
unfolding filled records_in parted is_recorded load_rows first load
damaged = (refl, refl, refl)

-- 33: a number that is never recorded; 0xFF with another time is one, and a record of zeros
unknown : (load (filled (5 ∷ 0 ∷ 0 ∷ 0x01 ∷ [])) ≡ Refused NeverRecorded) × (load (filled (5 ∷ 0 ∷ 0 ∷ 0xFF ∷ [])) ≡ Refused NeverRecorded)
    × (load (filled (0xFF ∷ 0xFF ∷ 0xFE ∷ 0xFF ∷ [])) ≡ Refused NeverRecorded)
    × (load (replicate area_length 0) ≡ Refused NeverRecorded) × (load (filled (0xFF ∷ 0xFF ∷ 0xFF ∷ 0x64 ∷ [])) ≡ Done)
unfolding filled records_in parted is_recorded load_rows first load
unknown = (refl, refl, refl, refl, refl)

-- one refused leaves the list as it was, its mark too
refused :
    let loaded = load_of (filled (5 ∷ 0 ∷ 0 ∷ 0x64 ∷ 6 ∷ 0 ∷ 0 ∷ 0x01 ∷ [])) in
    (loaded ≡ Err NeverRecorded) × (kept_after (events 3) loaded ≡ events 3)
unfolding filled events no_events add_of shifted records_in parted is_recorded load_rows first load_of
refused = (refl, refl)

-- that the kept events have recorded numbers is needed: a list with event 0x01 is saved, and its area is refused
needed : load (area_of (add_of no_events 5 0x01)) ≡ Refused NeverRecorded
unfolding area_of no_events add_of latest shifted records_in parted is_recorded load_rows first load
needed = refl

-- with the event FF FF FF FF the area loads, but the list is not the same
unused_event : (load (area_of (add_of no_events 0xFFFFFF 0xFF)) ≡ Done) × (events_in (area_of (add_of no_events 0xFFFFFF 0xFF)) ≡ [])
unfolding area_of no_events add_of latest shifted records_in used_of parted is_recorded load_rows first load
unused_event = (refl, refl)
