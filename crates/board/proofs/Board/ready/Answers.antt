-- No board or no room, then no frame held. Assumes nothing.
use mathlib.Core.List.{[], ◌∷◌}
use mathlib.Core.Bool.{Bool, not, cond}
use mathlib.Core.Path.{◌≡◌, sym, ap, ◌∙◌}
use Rattle.std.proofs.lemmas.Result.{err_from_is_err_and}
use Rattle.refusals.specs.Refusals.{Done, Refused, first}
use Rattle.refusals.specs.declared.Refusal.TheVariants.{NoBoard, NoRoom, NoFrameHeld}
use Rattle.refusals.proofs.Rows.{refused_part, done_part}
use Rattle.board.proofs.Board.ready.Goals as goal

-- with a board and room the held frame decides
by_frame : (b room held : Bool) {t : Bool} → held ≡ t → Done ≡ first ((NoBoard, b) ∷ (NoRoom, room) ∷ [])
    → cond (not t) (Refused NoFrameHeld) Done ≡ first ((NoBoard, b) ∷ (NoRoom, room) ∷ (NoFrameHeld, not held) ∷ [])
unfolding first
by_frame b room held e done =
    ap (λ (t : Bool). cond (not t) (Refused NoFrameHeld) Done) (sym e)
    ∙ done_part ((NoBoard, b) ∷ (NoRoom, room) ∷ []) ((NoFrameHeld, not held) ∷ []) done

pub returns-in_err-has_room : goal.returns-in_err-has_room
returns-in_err-has_room c =
    let p = err_from_is_err_and c.from_residual.result c.from_residual.ensures.1 in
    record { outcome = rw (p.1, p.2) (refused_part (_ ∷ _ ∷ []) _ c.in_err-has_room.ensures.outcome) }

pub returns-then-not-is_held : goal.returns-then-not-is_held
unfolding first
returns-then-not-is_held c =
    record { outcome = by_frame _ _ _ (sym c.is_held.ensures.0 ∙ c.if-not-is_held.true) c.in_ok-has_room.ensures.outcome }

pub returns : goal.returns
unfolding first
returns c = record { outcome = by_frame _ _ _ (sym c.is_held.ensures.0 ∙ c.if-not-is_held.false) c.in_ok-has_room.ensures.outcome }
