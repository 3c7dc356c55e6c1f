-- Events in the pack's memory (W-205 and W-207 of document 02): the list in a lent area of records of 4 bytes, no header: the three time
-- bytes and the event number, oldest first, unused records all 0xFF. Assumes nothing.
use Rattle.std.specs.Prelude.{Bool, false, ◌&&◌, ◌||◌, not, cond, List, [], ◌∷◌, ◌++◌, ◌≡◌, ℕ, zero, suc, ◌+◌, ◌*◌, ◌-◌, eqb, length}
use Rattle.std.specs.Prelude.{replicate, Result, Ok, Err}
use Rattle.laws.specs.History.{each, any}
use Rattle.numbers.specs.Numbers.{low_first, low_first_or}
use Rattle.refusals.specs.declared.Refusal.{Refusal}
use Rattle.refusals.specs.declared.Refusal.TheVariants.{WrongArea, UsedAfterUnused, NeverRecorded}
use Rattle.refusals.specs.Refusals.{Outcome, is_done, first, giving}
use Rattle.events.specs.declared.Event.{Event}
use Rattle.events.specs.declared.Events.{Events}
use Rattle.events.specs.Events.{capacity, time_of, number_of, no_event, kept_of}

-- the saved area becomes 248 bytes: a record of 4 bytes for each
abbrev pub area_length : ℕ
area_length = 4 * capacity

-- an old 192-byte area: 48 records of 4 bytes
abbrev pub old_length : ℕ
old_length = 192

-- 31 on saving: not 248
abbrev pub no_area : ℕ → Bool
no_area n = not (eqb n area_length)

-- 31 on loading: neither 192 nor 248
abbrev pub neither_area : ℕ → Bool
neither_area n = no_area n && not (eqb n old_length)

-- a record: the three time bytes, low byte first, and the event number
abbrev pub record_of : Event → List ℕ
record_of e = low_first 3 (time_of e) ++ (number_of e ∷ [])

-- an unused record: all 0xFF
abbrev pub no_record : Event
no_record = record { bytes = 0xFFFFFFFF }

abbrev pub used : Event → Bool
used e = not (eqb e.bytes no_record.bytes)

-- ---- saving

-- the records of a saved list: all that are kept, oldest first, then unused ones
abbrev pub saved_of : Events → List Event
saved_of e = kept_of e ++ replicate (capacity - length (kept_of e)) no_record

unfoldable pub area_of : Events → List ℕ
area_of e = each record_of (saved_of e)

-- an area refused on saving is not written
abbrev pub save_rows : ℕ → List (Refusal × Bool)
save_rows n = (WrongArea, no_area n) ∷ []

pub record Saves (e : Events) (before : List ℕ) (outcome : Outcome) (after : List ℕ) : Type 0 where
  pub outcome_is : outcome ≡ first (save_rows (length before))
  pub area : after ≡ cond (is_done outcome) (area_of e) before

-- ---- loading

-- n records from a place on, and all of an area; a byte past its end reads 0xFF, so an old area is the 248 bytes it makes with 14 unused
-- records after it
abbrev pub records_at : List ℕ → ℕ → ℕ → List Event
records_at area at zero = []
records_at area at (suc n) = record { bytes = low_first_or 0xFF 4 area at } ∷ records_at area (at + 4) n

unfoldable pub records_in : List ℕ → List Event
records_in area = records_at area 0 capacity

-- those before the first unused one
unfoldable pub used_of : List Event → List Event
used_of [] = []
used_of (e ∷ es) = cond (used e) (e ∷ used_of es) []

-- 32, a used record after an unused one
unfoldable pub parted : List Event → Bool
parted [] = false
parted (e ∷ es) = cond (used e) (parted es) (any used es)

-- the event numbers that this board records: the table's, at latching and at recovery, and the charger's two
abbrev pub recorded_numbers : List ℕ
recorded_numbers = 0x02 ∷ 0x7B ∷ 0x03 ∷ 0x79 ∷ 0x04 ∷ 0x73 ∷ 0x05 ∷ 0x77 ∷ 0x06 ∷ 0x76 ∷ 0x07 ∷ 0x78 ∷ 0x37 ∷ 0x74 ∷ 0x64 ∷ 0x65 ∷ []

abbrev pub is_in : ℕ → List ℕ → Bool
is_in n [] = false
is_in n (m ∷ ms) = eqb n m || is_in n ms

unfoldable pub is_recorded : ℕ → Bool
is_recorded n = is_in n recorded_numbers

-- 33, an event number this board never records
abbrev pub never_recorded : Event → Bool
never_recorded e = used e && not (is_recorded (number_of e))

abbrev pub record_rows : List Event → List (Refusal × Bool)
record_rows es = (UsedAfterUnused, parted es) ∷ (NeverRecorded, any never_recorded es) ∷ []

unfoldable pub load_rows : List ℕ → List (Refusal × Bool)
load_rows area = (WrongArea, neither_area (length area)) ∷ record_rows (records_in area)

-- those events in the last places, and everything marked as sent
abbrev pub list_of : List Event → Events
list_of es = record { list = replicate (capacity - length es) no_event ++ es; kept = length es; unsent = 0 }

-- the events of an area, oldest first
abbrev pub events_in : List ℕ → List Event
events_in area = used_of (records_in area)

-- a load gives the list that replaces these events
unfoldable pub load_of : List ℕ → Result Events Refusal
load_of area = giving (first (load_rows area)) (list_of (events_in area))

-- one that is refused leaves them as they were
abbrev pub kept_after : Events → Result Events Refusal → Events
kept_after e (Ok loaded) = loaded
kept_after e (Err refusal) = e
