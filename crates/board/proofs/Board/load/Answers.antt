-- A board that is none is refused; else the events are those that the load leaves. Assumes nothing.
use Rattle.hire.specs.declared.Hire.{Hire}
use Rattle.events.specs.declared.Events.{Events}
use Rattle.refusals.proofs.Rows.{come_to_giving}
use Rattle.refusals.specs.declared.Refusal.{Refusal}
use Rattle.std.specs.Result.{result_unwrap_or}
use Rattle.std.specs.Prelude.{Result, Ok, Err}
use mathlib.Core.Path.{◌≡◌, refl, sym, ap, ◌∙◌}
use mathlib.Core.Bool.{Bool, true, false, cond, not}
use mathlib.Core.List.{List}
use Prim.Native.Nat.{ℕ}
use Rattle.refusals.specs.Refusals.{Outcome, is_done, first, come_to, giving}
use Rattle.events.specs.Area.{load_rows, events_in, list_of}
use Rattle.events.specs.Area as events
use Rattle.board.specs.declared.Answer.{Answer}
use Rattle.board.specs.declared.Board.{Board}
use Rattle.board.specs.State.{usable, with_events, with_hire}
use Rattle.board.specs.Line.{let_go}
use Rattle.board.specs.Calls.{load, shape, board_by, answer_to}
use Rattle.board.proofs.Shape.{by_rows, no_board, some_board, none, answered, holds_on}
use Rattle.board.proofs.Board.load.Goals as goal

-- by the rows of the area
loaded : (b : Board) (area : List ℕ) {o : Outcome} {x : Board} → usable b ≡ true → o ≡ first (load_rows area)
    → x ≡ cond (is_done o) (with_events b (list_of (events_in area))) b → record { outcome = o; board = x } ≡ answer_to b (load area)
unfolding shape board_by
loaded b area {o = o} u e f =
    answered b (load area) o _ (e ∙ sym (by_rows b (shape (load area)) u))
    (f ∙ ap (λ (t : Bool). cond (is_done o) (with_events b (list_of (events_in area))) (cond t (let_go b) b))
    (sym (holds_on b (shape (load area)) o refl)))

rows : (area : List ℕ) {r : Result Events Refusal} → r ≡ events.load_of area → come_to r ≡ first (load_rows area)
unfolding events.load_of
rows area e = ap come_to e ∙ come_to_giving _ _

taken : (area : List ℕ) {es : Events} → Ok es ≡ events.load_of area → es ≡ list_of (events_in area)
unfolding events.load_of
taken area {es} e = ap (λ (r : Result Events Refusal). result_unwrap_or r es) (e ∙ ap (λ (o : Outcome). giving o (list_of (events_in area))) (sym (rows area e)))

pub returns-then-is_err : goal.returns-then-is_err
returns-then-is_err c =
    let (none-usable, is) = no_board _ c.outcome-outcome.ensures (c.is_err.ensures.negation ∙ ap not c.if-is_err.true) in
    c.with_outcome.ensures ∙ none _ (load _) _ is none-usable

pub returns-in-Ok : goal.returns-in-Ok
returns-in-Ok c =
    let (some, is) = some_board _ c.outcome-outcome.ensures (c.is_err.ensures.negation ∙ ap not c.if-is_err.false) in
    let told = sym c.in-Ok.is ∙ c.load.ensures in
    c.with_outcome-in-Ok.ensures
    ∙ loaded _ _ some (rows c.args.area.now told)
    (c.with_hire.ensures ∙ ap (λ (h : Hire). with_hire c.args.self h) c.with_events.ensures
    ∙ ap (with_events c.args.self) (taken c.args.area.now told))

pub returns-in-Err : goal.returns-in-Err
returns-in-Err c =
    let (some, is) = some_board _ c.outcome-outcome.ensures (c.is_err.ensures.negation ∙ ap not c.if-is_err.false) in
    c.with_outcome-in-Err.ensures ∙ loaded _ _ some (rows c.args.area.now (sym c.in-Err.is ∙ c.load.ensures)) refl
