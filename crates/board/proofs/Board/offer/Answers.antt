-- A board that is none takes nothing; else the receiver takes what it takes. Assumes nothing.
use mathlib.Core.Path.{◌≡◌, refl, sym, ap, ◌∙◌}
use mathlib.Core.Bool.{Bool, true, false, cond, not}
use mathlib.Core.List.{List, [], ◌∷◌}
use Prim.Native.Nat.{ℕ}
use Rattle.refusals.specs.declared.Refusal.TheVariants.{FrameHeld, NoBoard}
use Rattle.refusals.specs.Refusals.{Outcome, Refused, is_done, first}
use Rattle.receiver.specs.declared.Receiver.{Receiver}
use Rattle.receiver.specs.Receiver.{is_held, taken, offered_by, offered_of}
use Rattle.board.specs.declared.Board.{Board}
use Rattle.board.specs.declared.Heard.{Heard}
use Rattle.board.specs.State.{usable, with_receiver}
use Rattle.board.specs.Calls.{offer, shape, outcome_of, board_by, hearing}
use Rattle.board.proofs.Shape.{none_21, no_board, some_board}
use Rattle.board.proofs.Board.offer.Goals as goal

none : (b : Board) (bytes : List ℕ) → usable b ≡ false
    → ◌≡◌ {A = Heard} (record { outcome = Refused NoBoard; taken = 0; board = b }) (hearing b (offer bytes))
unfolding board_by
none b bytes u =
    let e = sym (none_21 b (shape (offer bytes)) u) in
    λ i. record {
      outcome = e i;
      taken = cond (is_done (e i)) ((shape (offer bytes)).carries b) 0;
      board = board_by b (shape (offer bytes)) (e i);
    }

took : (b : Board) (bytes : List ℕ) → usable b ≡ true
    → ◌≡◌ {A = Heard} (record {
      outcome = (offered_of b.hire.receiver bytes).outcome;
      taken = (offered_of b.hire.receiver bytes).taken;
      board = with_receiver b (offered_of b.hire.receiver bytes).receiver;
    }) (hearing b (offer bytes))
unfolding offered_of shape outcome_of first board_by
took b bytes u = rw u (go (is_held b.hire.receiver))
  where
    r : Receiver
    r = b.hire.receiver

    o : Bool → Outcome
    o t = first ((FrameHeld, t) ∷ [])

    go : (t : Bool)
        → ◌≡◌ {A = Heard} (record {
          outcome = (offered_by (o t) r bytes).outcome;
          taken = (offered_by (o t) r bytes).taken;
          board = with_receiver b (offered_by (o t) r bytes).receiver;
        })
        (record { outcome = o t; taken = cond (is_done (o t)) (taken r bytes) 0; board = board_by b (shape (offer bytes)) (o t) })
    go true = refl
    go false = refl

pub returns-then-is_err : goal.returns-then-is_err
returns-then-is_err c =
    let (none-usable, is) = no_board _ c.outcome-outcome.ensures (c.is_err.ensures.negation ∙ ap not c.if-is_err.true) in
    rw is (none _ _ none-usable)

pub returns : goal.returns
returns c =
    let (some, is) = some_board _ c.outcome-outcome.ensures (c.is_err.ensures.negation ∙ ap not c.if-is_err.false) in
    rw (c.with_receiver.ensures, c.offer-offered.ensures) (took _ _ some)
