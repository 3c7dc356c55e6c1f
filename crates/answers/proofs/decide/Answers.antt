-- What the bytes ask, and the settings after it. Assumes nothing.
use mathlib.Core.Path.{ap, ◌∙◌}
use Rattle.std.proofs.lemmas.Result.{err_from_is_err_and}
use Rattle.settings.specs.declared.Settings.{Settings}
use Rattle.requests.specs.declared.Request.{Request}
use Rattle.refusals.proofs.Rows.{mapped, mapped_giving}
use Rattle.answers.specs.declared.Taken.{Taken}
use Rattle.answers.specs.Answers.{taking}
use Rattle.answers.proofs.decide.Goals as goal

abbrev asking : Request → Settings → Taken
asking asked settings = record { asked = asked; settings = settings }

pub returns-in_err-settings : goal.returns-in_err-settings
returns-in_err-settings c =
    let p = err_from_is_err_and c.from_residual-in_err-settings.result c.from_residual-in_err-settings.ensures.1 in
    rw (p.1, p.2)
    (ap (mapped (asking c.in_ok-asked.asked)) c.in_err-settings.ensures ∙ mapped_giving (asking c.in_ok-asked.asked) _ _
    ∙ ap (taking c.args.pack c.args.request.now) c.in_ok-asked.ensures)
