-- By cases on what is asked. Assumes nothing.
use Rattle.std.specs.Prelude.{Ok}
use mathlib.Core.Path.{◌≡◌, ap, ◌∙◌}
use Prim.Native.Nat.{ℕ}
use Rattle.settings.specs.declared.Settings.{Settings}
use Rattle.writes.specs.declared.Form.{Form}
use Rattle.requests.specs.declared.Request.{Request}
use Rattle.requests.specs.declared.Request.TheVariants as request
use Rattle.answers.specs.Answers.{asked_settings}
use Rattle.board.specs.declared.Board.{Board}
use Rattle.board.specs.State.{with_settings}
use Rattle.board.specs.Changes.{changed_by}
use Rattle.board.specs.Promises.{Changed}
use Rattle.board.proofs.Board.changed.Goals as goal

-- a write leaves the settings that then stand
a_write : (b : Board) {q : Request} {f : Form} {n : ℕ} {st : Settings} {r : Board} → q ≡ request.Write f n → r ≡ with_settings b st
    → Changed b (Ok q) st r
unfolding changed_by asked_settings
a_write b e p = record { changed = λ s stands. rw e (p ∙ ap (with_settings b) (rw e at stands)) }

pub returns-in-ClearEvents : goal.returns-in-ClearEvents
unfolding changed_by
returns-in-ClearEvents c = record { changed = λ s stands. rw (c.in-ClearEvents.is, c.clear_events.ensures) }

pub returns-in-ClearStatistics : goal.returns-in-ClearStatistics
unfolding changed_by
returns-in-ClearStatistics c = record { changed = λ s stands. rw (c.in-ClearStatistics.is, c.clear_statistics.ensures) }

pub returns-in-Write : goal.returns-in-Write
returns-in-Write c = a_write _ c.in-Write.is c.with_settings.ensures

pub returns-in-Read : goal.returns-in-Read
unfolding changed_by
returns-in-Read c = record { changed = λ s stands. rw (c.in-Read.is, c.marked.ensures) }
