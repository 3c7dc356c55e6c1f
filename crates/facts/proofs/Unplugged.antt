-- W-204, computed: what a mechanic sees of the discharge switch who pulls the plug of a sensor and puts it back. 60 °C is hot, 55 °C warm,
-- 54.9 °C and 20 °C are cool.
-- Assumes nothing.
use mathlib.Core.Path.{◌≡◌, refl}
use mathlib.Core.Bool.{Bool, true, false}
use mathlib.Core.List.{List, [], ◌∷◌, map}
use Prim.Native.Nat.{ℕ}
use lib.IntN.{pos}
use Rattle.board.specs.Start.{start_board}
use Rattle.board.specs.Calls.{Call}
use Rattle.board.specs.Behaviour.{board, after_in, answers_in}
use Rattle.board.proofs.Opened.{opened}
use Rattle.facts.proofs.Calls.{warmed, unplugged, handing}
use Rattle.facts.proofs.Ticks.{recorded}

-- the discharge switch after each of these calls, and the numbers of the events after all of them
abbrev switches : List Call → List Bool
switches cs = map (λ a. a.discharge) (answers_in board (start_board 4 2000) cs)

abbrev numbers : List Call → List ℕ
numbers cs = recorded (after_in board (start_board 4 2000) cs)

-- external 2 is hot, unplugged, back and warm, and cool
abbrev pulled : List Call
pulled =
    warmed (pos 200) (pos 200) (pos 600) ∷ warmed (pos 200) (pos 200) unplugged
    ∷ warmed (pos 200) (pos 200) (pos 550) ∷ warmed (pos 200) (pos 200) (pos 549) ∷ []

pub record Story : Type 0 where
  -- the mechanic's: OT stays while external 2 is unplugged, and recovers when it is plugged in and cool
  pub mechanic : switches pulled ≡ false ∷ false ∷ false ∷ true ∷ []
  pub events : numbers pulled ≡ 0x04 ∷ 0x73 ∷ []
  -- a sensor that was connected and cool when OT latched is missed too
  pub cool_pulled :
      switches (warmed (pos 200) (pos 200) (pos 600) ∷ warmed (pos 200) unplugged (pos 200) ∷ warmed (pos 200) (pos 200) (pos 200) ∷ [])
      ≡ false ∷ false ∷ true ∷ []
  -- with no external connected since it latched, the internal sensor decides alone
  pub none_connected : switches (warmed (pos 600) unplugged unplugged ∷ warmed (pos 549) unplugged unplugged ∷ []) ≡ false ∷ true ∷ []
  -- one that is plugged in while OT is latched joins, and must be cool, and connected, too
  pub plugged_in :
      switches
      (warmed (pos 600) unplugged unplugged ∷ warmed (pos 200) (pos 550) unplugged
      ∷ warmed (pos 200) unplugged unplugged ∷ warmed (pos 200) (pos 549) unplugged ∷ [])
      ≡ false ∷ false ∷ false ∷ true ∷ []
  -- kept at handover
  pub handed_over :
      switches
      (warmed (pos 200) (pos 200) (pos 600) ∷ handing
      ∷ warmed (pos 200) (pos 200) unplugged ∷ warmed (pos 200) (pos 200) (pos 200) ∷ [])
      ≡ false ∷ false ∷ false ∷ true ∷ []
  -- emptied at recovery: when OT latches again without it, external 2 is not asked for
  pub latched_again :
      switches
      (warmed (pos 200) (pos 200) (pos 600) ∷ warmed (pos 200) (pos 200) (pos 200)
      ∷ warmed (pos 600) (pos 200) unplugged ∷ warmed (pos 200) (pos 200) unplugged ∷ [])
      ≡ false ∷ true ∷ false ∷ true ∷ []

pub story : Story
unfolding opened recorded
story =
    record {
      mechanic = refl;
      events = refl;
      cool_pulled = refl;
      none_connected = refl;
      plugged_in = refl;
      handed_over = refl;
      latched_again = refl;
    }
