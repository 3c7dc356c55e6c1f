-- The hire is what one rider did and saw: everything that a handover does not keep.
-- Assumes nothing.
use Rattle.std.specs.Prelude.{Bool, false, List, ℕ, replicate}
use Rattle.events.specs.declared.Events.{Events}
use Rattle.events.specs.Events.{no_events}
use Rattle.live.specs.Live.{no_live}
use Rattle.readings.specs.Readings.{no_readings}
use Rattle.receiver.specs.declared.Receiver.{Receiver}
use Rattle.receiver.specs.Receiver.{no_bytes}
use Rattle.statistics.specs.declared.Statistics.{Statistics}
use Rattle.statistics.specs.Statistics.{cleared_at}
use Rattle.hire.specs.declared.Sensed.{Sensed}
use Rattle.hire.specs.declared.Hire.{Hire}

-- ---- start: everything else at zero, switches off, status 0x97

-- no readings yet
abbrev pub no_sensed : Sensed
no_sensed =
    record { readings = no_readings; cells = replicate 16 0; extremes = record { lowest = 0; highest = 0 }; live = no_live }

-- a new hire: everything at its start value; only the lifetime enters, as that of the clear
unfoldable pub new_hire : ℕ → Hire
new_hire lifetime =
    record {
      sensed = no_sensed;
      window = replicate 10 0;
      events = no_events;
      statistics = cleared_at lifetime;
      status = 0x97;
      decision = 0;
      balancing = 0;
      charge = false;
      discharge = false;
      receiver = no_bytes;
    }

-- ---- a hire with one part anew

abbrev pub with_sensed : Hire → Sensed → Hire
with_sensed h x =
    record {
      sensed = x;
      window = h.window;
      events = h.events;
      statistics = h.statistics;
      status = h.status;
      decision = h.decision;
      balancing = h.balancing;
      charge = h.charge;
      discharge = h.discharge;
      receiver = h.receiver;
    }

abbrev pub with_window : Hire → List ℕ → Hire
with_window h x =
    record {
      sensed = h.sensed;
      window = x;
      events = h.events;
      statistics = h.statistics;
      status = h.status;
      decision = h.decision;
      balancing = h.balancing;
      charge = h.charge;
      discharge = h.discharge;
      receiver = h.receiver;
    }

abbrev pub with_events : Hire → Events → Hire
with_events h x =
    record {
      sensed = h.sensed;
      window = h.window;
      events = x;
      statistics = h.statistics;
      status = h.status;
      decision = h.decision;
      balancing = h.balancing;
      charge = h.charge;
      discharge = h.discharge;
      receiver = h.receiver;
    }

abbrev pub with_statistics : Hire → Statistics → Hire
with_statistics h x =
    record {
      sensed = h.sensed;
      window = h.window;
      events = h.events;
      statistics = x;
      status = h.status;
      decision = h.decision;
      balancing = h.balancing;
      charge = h.charge;
      discharge = h.discharge;
      receiver = h.receiver;
    }

abbrev pub with_status : Hire → ℕ → Hire
with_status h x =
    record {
      sensed = h.sensed;
      window = h.window;
      events = h.events;
      statistics = h.statistics;
      status = x;
      decision = h.decision;
      balancing = h.balancing;
      charge = h.charge;
      discharge = h.discharge;
      receiver = h.receiver;
    }

abbrev pub with_decision : Hire → ℕ → Hire
with_decision h x =
    record {
      sensed = h.sensed;
      window = h.window;
      events = h.events;
      statistics = h.statistics;
      status = h.status;
      decision = x;
      balancing = h.balancing;
      charge = h.charge;
      discharge = h.discharge;
      receiver = h.receiver;
    }

abbrev pub with_balancing : Hire → ℕ → Hire
with_balancing h x =
    record {
      sensed = h.sensed;
      window = h.window;
      events = h.events;
      statistics = h.statistics;
      status = h.status;
      decision = h.decision;
      balancing = x;
      charge = h.charge;
      discharge = h.discharge;
      receiver = h.receiver;
    }

abbrev pub with_charge : Hire → Bool → Hire
with_charge h x =
    record {
      sensed = h.sensed;
      window = h.window;
      events = h.events;
      statistics = h.statistics;
      status = h.status;
      decision = h.decision;
      balancing = h.balancing;
      charge = x;
      discharge = h.discharge;
      receiver = h.receiver;
    }

abbrev pub with_discharge : Hire → Bool → Hire
with_discharge h x =
    record {
      sensed = h.sensed;
      window = h.window;
      events = h.events;
      statistics = h.statistics;
      status = h.status;
      decision = h.decision;
      balancing = h.balancing;
      charge = h.charge;
      discharge = x;
      receiver = h.receiver;
    }

abbrev pub with_receiver : Hire → Receiver → Hire
with_receiver h x =
    record {
      sensed = h.sensed;
      window = h.window;
      events = h.events;
      statistics = h.statistics;
      status = h.status;
      decision = h.decision;
      balancing = h.balancing;
      charge = h.charge;
      discharge = h.discharge;
      receiver = x;
    }
