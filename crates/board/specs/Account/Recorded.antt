-- Events, from the history: all that were recorded since they were forgotten or loaded, with those loaded then; and since they were sent;
-- newest first. Assumes nothing.
use Rattle.std.specs.Prelude.{Bool, cond, List, [], ◌∷◌, ◌++◌, map, reverse, ℕ, min, eqb, length}
use Rattle.laws.specs.History.{since, from, each, latest}
use Rattle.events.specs.declared.Event.{Event}
use Rattle.events.specs.declared.Events.{Events}
use Rattle.events.specs.Events.{capacity, event_at, no_event}
use Rattle.guard.specs.declared.Conditions.{Conditions}
use Rattle.hire.specs.Tick.{events_of}
use Rattle.board.specs.Deeds.{Deed, row, forgets, settles}
use Rattle.board.specs.Account.Kept.{seconds_at, latched_at}
use Rattle.board.specs.Account.LastTick.{charger_at}

abbrev pub some_event : ℕ → List ℕ
some_event n = cond (eqb n 0) [] (n ∷ [])

-- of a tick's events those that there are, newest first
abbrev pub newest_first : List ℕ → List ℕ
newest_first [] = []
newest_first (n ∷ ns) = newest_first ns ++ some_event n

abbrev pub numbers_of : Conditions → Conditions → Bool → Bool → List ℕ
numbers_of before after was is = newest_first (events_of was is before after)

abbrev pub recorded_now : List Deed → List Event
recorded_now [] = []
recorded_now (d ∷ h) =
    each (λ t. map (event_at (seconds_at (d ∷ h))) (numbers_of (latched_at h) (latched_at (d ∷ h)) (charger_at h) t.1.charger)) (row d).ticks

-- what was loaded where they were last forgotten
abbrev pub loading : List Deed → List Event
loading [] = []
loading (d ∷ h) = (row d).loads

abbrev pub kept_since : List Deed → List Event
kept_since h = each recorded_now (since forgets h) ++ reverse (loading (from forgets h))

abbrev pub new_since : List Deed → List Event
new_since h = each recorded_now (since settles h)

unfoldable pub events_at : List Deed → Events
events_at h =
    record {
      list = latest capacity no_event (kept_since h);
      kept = min capacity (length (kept_since h));
      unsent = min capacity (length (new_since h));
    }
