-- Demand 2. Every reply, register, event, switch and balancing bit is what document 01 works out: the board stepped call by call is
-- the board that the history of its calls makes, and every answer is as the paper tells it.
-- Assumes nothing.
use mathlib.Core.Path.{◌≡◌, refl, ap, ap₂, ◌∙◌}
use mathlib.Core.List.{List, [], ◌∷◌, reverse_aux}
use Prim.Native.Nat.{ℕ}
use Rattle.events.specs.Events.{no_events}
use Rattle.guard.specs.Account.{latched_from, waits_from, remembered_from}
use Rattle.statistics.specs.Statistics.{cleared_at}
use Rattle.board.specs.declared.Board.{Board}
use Rattle.pack.specs.Pack.{new_pack}
use Rattle.hire.specs.Hire.{new_hire}
use Rattle.board.specs.Start.{start_board}
use Rattle.board.specs.Calls.{Call, Seen, step}
use Rattle.board.specs.Behaviour.{after_in, answers_in, board}
use Rattle.board.specs.Demands.{Demand2, deeds, told, told_all}
use Rattle.board.specs.Account.{settings_at, seconds_at, clock_at, latched_at, waits_at, remembered_at, sensed_at, window_at, status_at}
use Rattle.board.specs.Account.{decision_at, balancing_at, charge_at, discharge_at, events_at, statistics_at, heard_at, board_at, deeds_of}
use Rattle.board.proofs.Account.Calls.{stepped}

module _ (cells per_km : ℕ) where
  pub begun : start_board cells per_km ≡ board_at cells per_km (deeds_of cells per_km [])
  unfolding start_board new_pack new_hire no_events cleared_at deeds_of board_at settings_at clock_at seconds_at latched_from waits_from remembered_from
      latched_at waits_at remembered_at sensed_at window_at status_at decision_at balancing_at charge_at discharge_at events_at statistics_at heard_at
  begun = refl

  on : (h cs : List Call)
      → after_in board (board_at cells per_km (deeds_of cells per_km h)) cs ≡ board_at cells per_km (deeds_of cells per_km (reverse_aux cs h))
  unfolding after_in
  on h [] = refl
  on h (c ∷ cs) = ap (λ (b : Board). after_in board b cs) (stepped cells per_km h c) ∙ on (c ∷ h) cs

  pub account : (cs : List Call) → after_in board (start_board cells per_km) cs ≡ board_at cells per_km (deeds cells per_km cs)
  account cs = ap (λ (b : Board). after_in board b cs) begun ∙ on [] cs

  pub as_told : (h : List Call) (c : Call) → (step (board_at cells per_km (deeds_of cells per_km h)) c).1 ≡ told cells per_km h c
  unfolding told
  as_told h c =
      let b = board_at cells per_km (deeds_of cells per_km h) in
      ap (λ (a : Board). record {
        outcome = (step b c).1.outcome;
        buffer = (step b c).1.buffer;
        carried = (step b c).1.carried;
        charge = a.hire.charge;
        discharge = a.hire.discharge;
        decision = a.hire.decision;
        balancing = a.hire.balancing;
      })
      (stepped cells per_km h c)

  all_told : (h cs : List Call) → answers_in board (board_at cells per_km (deeds_of cells per_km h)) cs ≡ told_all cells per_km h cs
  unfolding answers_in told_all
  all_told h [] = refl
  all_told h (c ∷ cs) =
      ap₂ {C = List Seen} ◌∷◌ (as_told h c) (ap (λ (b : Board). answers_in board b cs) (stepped cells per_km h c) ∙ all_told (c ∷ h) cs)

pub demand2 : Demand2 board
demand2 cells per_km cs = ap (λ (b : Board). answers_in board b cs) (begun cells per_km) ∙ all_told cells per_km [] cs
