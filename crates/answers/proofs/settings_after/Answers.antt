-- By cases on what is asked. Assumes nothing.
use mathlib.Core.Path.{sym, ◌∙◌}
use Rattle.settings.specs.Settings as settings
use Rattle.settings.proofs.Drafts.{given_stands}
use Rattle.writes.specs.Writes.{pairs_of, drafted_of}
use Rattle.answers.specs.Answers.{asked_outcome, asked_settings}
use Rattle.answers.proofs.settings_after.Goals as goal

pub returns-in-Write : goal.returns-in-Write
unfolding asked_outcome asked_settings
returns-in-Write c =
    let st = c.args.pack.settings in
    let draft = drafted_of (settings.draft_of st) (pairs_of c.in-Write.form c.args.request.now c.in-Write.count) in
    rw c.in-Write.is (c.written.ensures ∙ sym (given_stands st (settings.outcome_of draft) (settings.settings_in draft)))
