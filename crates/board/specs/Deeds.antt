-- What a call that is done did: a deed. A history is a list of deeds, the newest first.
-- Assumes nothing.
use Rattle.std.specs.Prelude.{Bool, true, false, ◌||◌, List, [], ◌∷◌, ℕ}
use Rattle.events.specs.declared.Event.{Event}
use Rattle.readings.specs.declared.Readings.{Readings}
use Rattle.writes.specs.declared.Pair.{Pair}

pub data Deed : Type 0 where
  took : List ℕ → Readings → Deed  -- an accepted tick
  wrote : List Pair → Deed  -- an accepted write: its registers and their values, the last first
  cleared : Deed  -- statistics, by 0x02 option 02
  forgot : Deed  -- events, by 0x02 option 01
  sent : Deed  -- new events, by 0x11
  handed : Deed  -- a handover
  heard : List ℕ → Deed  -- the bytes that an offer took
  fetched : Deed  -- a held frame was fetched; what it asks was done before
  loaded : List Event → Deed  -- the events of a loaded area, oldest first

-- what each deed has: a tick, a write, bytes off the raw line, loaded events, and which of the marks of a history it is
pub record Row : Type 0 where
  pub ticks : List (List ℕ × Readings)
  pub writes : List Pair
  pub clears : Bool
  pub forgets : Bool
  pub sends : Bool
  pub hands : Bool
  pub hears : List ℕ
  pub drops : Bool
  pub loads : List Event

-- nothing of all these
abbrev none : Row
none =
    record { ticks = []; writes = []; clears = false; forgets = false; sends = false; hands = false; hears = []; drops = false; loads = [] }

abbrev pub row : Deed → Row
row (took cells r) = record {
  ticks = (cells, r) ∷ [];
  writes = [];
  clears = false;
  forgets = false;
  sends = false;
  hands = false;
  hears = [];
  drops = false;
  loads = [];
}
row (wrote ps) =
    record { ticks = []; writes = ps; clears = false; forgets = false; sends = false; hands = false; hears = []; drops = false; loads = [] }
row cleared =
    record { ticks = []; writes = []; clears = true; forgets = false; sends = false; hands = false; hears = []; drops = false; loads = [] }
row forgot =
    record { ticks = []; writes = []; clears = false; forgets = true; sends = false; hands = false; hears = []; drops = false; loads = [] }
row sent =
    record { ticks = []; writes = []; clears = false; forgets = false; sends = true; hands = false; hears = []; drops = false; loads = [] }
row handed =
    record { ticks = []; writes = []; clears = true; forgets = true; sends = false; hands = true; hears = []; drops = true; loads = [] }
row (heard bytes) = record {
  ticks = [];
  writes = [];
  clears = false;
  forgets = false;
  sends = false;
  hands = false;
  hears = bytes;
  drops = false;
  loads = [];
}
row fetched =
    record { ticks = []; writes = []; clears = false; forgets = false; sends = false; hands = false; hears = []; drops = true; loads = [] }
row (loaded es) =
    record { ticks = []; writes = []; clears = false; forgets = true; sends = false; hands = false; hears = []; drops = false; loads = es }

abbrev pub clears : Deed → Bool
clears d = (row d).clears

abbrev pub forgets : Deed → Bool
forgets d = (row d).forgets

abbrev pub hands : Deed → Bool
hands d = (row d).hands

-- handed over or fetched: what has come of a frame is dropped
abbrev pub drops : Deed → Bool
drops d = (row d).drops

-- forgotten, loaded or sent
abbrev pub settles : Deed → Bool
settles d = (row d).forgets || (row d).sends

-- the tick, the registers written at this moment, if it is one
abbrev pub ticking : List Deed → List (List ℕ × Readings)
ticking [] = []
ticking (d ∷ h) = (row d).ticks

abbrev pub writing : List Deed → List Pair
writing [] = []
writing (d ∷ h) = (row d).writes
