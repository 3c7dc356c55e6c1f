-- "Clears, frames, loads and recalls change no switch": each of these calls does neither a tick nor a handover, on any board; so on every
-- behaviour that meets the switch fact it shows the switches as the call before it did. A clear is a frame, or is fetched off the raw line.
-- Assumes nothing.
use Rattle.std.specs.Prelude.{Err, Ok}
use mathlib.Core.Path.{◌≡◌, refl, ap, ◌∙◌}
use mathlib.Core.Bool.{Bool, true, false, ◌&&◌, cond, and-false}
use mathlib.Core.List.{List, [], ◌∷◌}
use Prim.Native.Nat.{ℕ}
use Rattle.laws.specs.History.{any}
use Rattle.refusals.specs.Refusals.{is_done}
use Rattle.requests.specs.declared.Request.TheVariants as request
use Rattle.requests.specs.Requests.{request_of, marks, Asked}
use Rattle.board.specs.declared.Board.{Board}
use Rattle.board.specs.Line.{held_in}
use Rattle.board.specs.Changes.{asked_deeds}
use Rattle.board.specs.Calls.{Call, frame, offer, fetch, save, load, cabinet, keep, recall, shape}
use Rattle.board.specs.Behaviour.{Behaviour}
use Rattle.board.specs.Account.{sent, board_at, outcome_at}
use Rattle.board.specs.Demands.{deeds, shown}
use Rattle.life.specs.Switches.{switches, shown_last, turns, SwitchFact}

-- it does neither
abbrev pub Unswitching : Call → Type 0
Unswitching c = (b : Board) → any turns ((shape c).deeds b) ≡ false

-- whatever a request asks
asked : (s : List ℕ) (q : Asked) → any turns (asked_deeds s q) ≡ false
unfolding asked_deeds
asked s (Err refusal) = refl
asked s (Ok request.ClearEvents) = refl
asked s (Ok request.ClearStatistics) = refl
asked s (Ok (request.Write f n)) = refl
asked s (Ok (request.Read q)) = go (marks q)
  where
    go : (t : Bool) → any turns (cond t (sent ∷ []) []) ≡ false
    go true = refl
    go false = refl

pub frames : (s : List ℕ) (room : ℕ) → Unswitching (frame s room)
unfolding shape
frames s room b = asked s (request_of s)

pub offers : (bytes : List ℕ) → Unswitching (offer bytes)
unfolding shape
offers bytes b = refl

pub fetches : (room : ℕ) → Unswitching (fetch room)
unfolding shape
fetches room b = asked (held_in b) (request_of (held_in b))

pub saves : (n : ℕ) → Unswitching (save n)
unfolding shape
saves n b = refl

pub loads : (area : List ℕ) → Unswitching (load area)
unfolding shape
loads area b = refl

pub cabinets : (n : ℕ) → Unswitching (cabinet n)
unfolding shape
cabinets n b = refl

pub keeps : (store : List ℕ) → Unswitching (keep store)
unfolding shape
keeps store b = refl

pub recalls : (store : List ℕ) (edition : ℕ) → Unswitching (recall store edition)
unfolding shape
recalls store edition b = refl

-- so it shows the switches as they were
pub unswitched : (B : Behaviour) → SwitchFact B → (c : Call) → Unswitching c → (cells per_km : ℕ) (cs : List Call)
    → switches (shown B cells per_km cs c) ≡ shown_last B cells per_km cs
unswitched B fact c none cells per_km cs =
    let h = deeds cells per_km cs in
    let done = is_done (outcome_at cells per_km h c) in
    fact.nothing_else cells per_km cs c (ap (λ (t : Bool). done && t) (none (board_at cells per_km h)) ∙ and-false done)
