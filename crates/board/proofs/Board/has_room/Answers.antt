-- No board, then no room. Assumes nothing.
use mathlib.Core.List.{[], ◌∷◌}
use mathlib.Core.Bool.{Bool, cond}
use mathlib.Core.Path.{◌≡◌, sym, ap, ◌∙◌}
use borrow.Author.Tests.{lt-ltb, le-ltb}
use Rattle.std.proofs.lemmas.Result.{err_from_is_err_and}
use Rattle.refusals.specs.Refusals.{Done, Refused, first}
use Rattle.refusals.specs.declared.Refusal.TheVariants.{NoBoard, NoRoom}
use Rattle.refusals.proofs.Rows.{refused_part, done_part}
use Rattle.pack.specs.Pack.{start_outcome}
use Rattle.board.proofs.Board.has_room.Goals as goal

-- on a board the room decides
by_room : (b room : Bool) {t : Bool} → room ≡ t → Done ≡ first ((NoBoard, b) ∷ []) → cond t (Refused NoRoom) Done ≡ first ((NoBoard, b) ∷ (NoRoom, room) ∷ [])
unfolding first
by_room b room e done =
    ap (λ (t : Bool). cond t (Refused NoRoom) Done) (sym e) ∙ done_part ((NoBoard, b) ∷ []) ((NoRoom, room) ∷ []) done

pub returns-in_err-outcome : goal.returns-in_err-outcome
unfolding start_outcome
returns-in_err-outcome c =
    let p = err_from_is_err_and c.from_residual.result c.from_residual.ensures.1 in
    record { outcome = rw (p.1, p.2) (refused_part (_ ∷ []) _ c.in_err-outcome.ensures) }

pub returns-then-room-lt259 : goal.returns-then-room-lt259
unfolding start_outcome first
returns-then-room-lt259 c =
    record { outcome = by_room _ _ (lt-ltb _ 259 c.if-room-lt259.true) c.in_ok-outcome.ensures }

pub returns : goal.returns
unfolding start_outcome first
returns c = record { outcome = by_room _ _ (le-ltb _ 259 c.if-room-lt259.false) c.in_ok-outcome.ensures }
