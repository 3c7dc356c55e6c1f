-- W-212, the switch fact over the whole life of a board: of any behaviour, from any start, after any calls. The paper decides which ticks
-- and handovers are accepted, so no behaviour escapes by refusing them.
-- Assumes nothing.
use Rattle.std.specs.Prelude.{◌≡◌, Bool, true, false, ◌&&◌, ◌||◌, List, [], ◌∷◌, ◌++◌, map, ℕ, eqb}
use Rattle.laws.specs.History.{some, any}
use Rattle.refusals.specs.Refusals.{Done, is_done}
use Rattle.guard.specs.declared.Condition.{Condition}
use Rattle.guard.specs.Table.{names_charge, names_discharge}
use Rattle.readings.specs.declared.Readings.{Readings}
use Rattle.board.specs.Calls.{Call, tick, handover, Seen, shape}
use Rattle.board.specs.Behaviour.{Behaviour, answers_in}
use Rattle.board.specs.Account.{Deed, took, row, hands, count_at, moments_at, settings_at, board_at, outcome_at}
use Rattle.board.specs.Demands.{deeds, shown}
use Rattle.life.specs.Recorded.{unrecovered, recorded_ever}

-- "over any sequence of calls from a start, at the end of each accepted tick"
abbrev pub AtEachTick : Behaviour → ((h : List Deed) → Readings → Seen → Type 0) → Type 0
AtEachTick B Holds =
    (cells per_km : ℕ) (cs : List Call) (given : List ℕ) (r : Readings)
    → outcome_at cells per_km (deeds cells per_km cs) (tick given r) ≡ Done
    → Holds (took given r ∷ deeds cells per_km cs) r (shown B cells per_km cs (tick given r))

-- "a condition naming it has a latch event later than its last recovery event, both counted over all ticks ever"; "with none such"
abbrev pub SomeSuch : (Condition → Bool) → List Deed → Type 0
SomeSuch names h = (c : Condition) × (names c ≡ true) × (unrecovered c (recorded_ever (moments_at h)) ≡ true)

abbrev pub NoneSuch : (Condition → Bool) → List Deed → Type 0
NoneSuch names h = (c : Condition) → names c ≡ true → unrecovered c (recorded_ever (moments_at h)) ≡ false

-- what is seen of both switches; and what the last of these calls showed, where both were off at the start
abbrev pub switches : Seen → Bool × Bool
switches a = (a.charge, a.discharge)

abbrev pub last_of : {A : Type 0} → A → List A → A
last_of z [] = z
last_of z (x ∷ xs) = last_of x xs

abbrev pub shown_last : (B : Behaviour) → ℕ → ℕ → List Call → Bool × Bool
shown_last B cells per_km cs = last_of (false, false) (map switches (answers_in B (B.start cells per_km) cs))

-- a call that does a tick or a handover: by what it adds to the history where it is done. (A frame, and so a clear, and a load do
-- neither: proofs/Others)
abbrev pub turns : Deed → Bool
turns d = some (row d).ticks || hands d

abbrev pub turns_at : ℕ → ℕ → List Deed → Call → Bool
turns_at cells per_km h c = is_done (outcome_at cells per_km h c) && any turns ((shape c).deeds (board_at cells per_km h))

pub record SwitchFact (B : Behaviour) : Type 0 where
  -- "a switch is off if a condition naming it has a latch event later than its last recovery event"
  pub charge_is_off : AtEachTick B (λ h r a. SomeSuch names_charge h → a.charge ≡ false)
  pub discharge_is_off : AtEachTick B (λ h r a. SomeSuch names_discharge h → a.discharge ≡ false)
  -- "Conversely, with none such, the charger present turns charge on", and it alone
  pub charge_on : AtEachTick B (λ h r a. NoneSuch names_charge h → a.charge ≡ r.charger)
  -- "and ignition present or 334 at 0 turns discharge on", and these alone
  pub discharge_on : AtEachTick B (λ h r a. NoneSuch names_discharge h → a.discharge ≡ (r.ignition || eqb (settings_at h).r334 0))
  -- "Handover turns both off until the next accepted tick": at it,
  pub handed : (cells per_km : ℕ) (cs : List Call) (number n : ℕ)
      → outcome_at cells per_km (deeds cells per_km cs) (handover number n) ≡ Done
      → switches (shown B cells per_km cs (handover number n)) ≡ (false, false)
  -- and so after any calls since, while no tick of theirs is accepted: as many ticks are taken as before it
  pub until_a_tick : (cells per_km : ℕ) (cs since : List Call) (number n : ℕ)
      → outcome_at cells per_km (deeds cells per_km cs) (handover number n) ≡ Done
      → count_at (deeds cells per_km (cs ++ (handover number n ∷ since))) ≡ count_at (deeds cells per_km cs)
      → shown_last B cells per_km (cs ++ (handover number n ∷ since)) ≡ (false, false)
  -- "clears, frames, loads and recalls change no switch", nor does any call but an accepted tick or a handover that is done
  pub nothing_else : (cells per_km : ℕ) (cs : List Call) (c : Call)
      → turns_at cells per_km (deeds cells per_km cs) c ≡ false
      → switches (shown B cells per_km cs c) ≡ shown_last B cells per_km cs
