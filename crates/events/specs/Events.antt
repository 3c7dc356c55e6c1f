-- The event list keeps the latest 62 (W-207 of document 02), oldest first, and knows which of them an earlier 0x11 has not sent.
-- Assumes nothing.
use Rattle.std.specs.Prelude.{cond, List, ℕ, ◌+◌, ◌*◌, ◌-◌, ◌/◌, ◌%◌, min, eqb, drop, get_or, replicate}
use Rattle.laws.specs.Fold.{shifted}
use Rattle.events.specs.declared.Event.{Event}
use Rattle.events.specs.declared.Events.{Events}

-- keep 62
abbrev pub capacity : ℕ
capacity = 62

-- 3 time bytes and the event number, as one number of 32 bits; event time is the seconds modulo 2^24
abbrev pub event_at : ℕ → ℕ → Event
event_at seconds number = record { bytes = seconds % 16777216 + 16777216 * number }

-- its time, and its number
abbrev pub time_of : Event → ℕ
time_of e = e.bytes % 16777216

abbrev pub number_of : Event → ℕ
number_of e = e.bytes / 16777216

-- what stands where no event is
abbrev pub no_event : Event
no_event = record { bytes = 0 }

-- the latest n of the places
unfoldable pub latest : ℕ → Events → List Event
latest n e = drop (capacity - n) e.list

-- how many are kept, and how many of those no 0x11 has sent
abbrev pub kept_count : Events → ℕ
kept_count e = min capacity e.kept

abbrev pub new_count : Events → ℕ
new_count e = min (kept_count e) e.unsent

-- all that are kept, and those not yet sent by an earlier 0x11; oldest first
abbrev pub kept_of : Events → List Event
kept_of e = latest (kept_count e) e

abbrev pub new_of : Events → List Event
new_of e = latest (new_count e) e

-- no event yet
unfoldable pub no_events : Events
no_events = record { list = replicate capacity no_event; kept = 0; unsent = 0 }

-- one event more, the oldest gone if there is no place
unfoldable pub add_of : Events → ℕ → ℕ → Events
add_of e seconds number =
    record {
      list = shifted e.list (event_at seconds number);
      kept = min capacity (e.kept + 1);
      unsent = min capacity (e.unsent + 1);
    }

-- all are sent
unfoldable pub sent_of : Events → Events
sent_of e = record { list = e.list; kept = e.kept; unsent = 0 }

-- one of a list of events by its place
abbrev pub placed : List Event → ℕ → Event
placed es n = get_or es n no_event

-- what 0x11 and 0x12 send, in numbers of four bytes: lifetime seconds, then the events, oldest first
abbrev pub event_longs : ℕ → List Event → ℕ → ℕ
event_longs lifetime es k = cond (eqb k 0) lifetime (placed es (k - 1)).bytes
