-- `survey_row` meets its contract: a row that is surveyed is one before the last, so the next can be counted. Assumes nothing.
use mathlib.Core.Path.{sym, ◌∙◌}
use lib.ListN.{get_or}
use native.Mathlib.Omega.{arith}
use Rattle.settings.proofs.Laws.Settings.{limits}
use Rattle.reach.proofs.Laws.Survey.{surveyed_early}
use Rattle.calls.proofs.survey_row.Goals as goal

pub overflow_add-survey : goal.overflow_add-survey
overflow_add-survey c = let a = c.args in
    let w = a.settings in
    let early = surveyed_early w (get_or a.survey.now 0 0) (get_or a.survey.now 2 0) a.row.now _ (sym c.survey.ensures ∙ rw c.in-Ok-Some.field-0-is at c.in-Ok-Some.is) in
    omega (arith, early.1, (limits w early.0).rows)
