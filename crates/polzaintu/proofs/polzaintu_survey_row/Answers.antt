-- `polzaintu_survey_row` meets its contract. Assumes nothing.
use mathlib.Core.Path.{◌∙◌}
use Rattle.polzaintu.proofs.polzaintu_survey_row.Goals as goal

pub returns : goal.returns
returns c = let s = c.settings_in.ensures in
    record { number = c.survey_row.ensures.number ∙ rw s; survey = c.survey_row.ensures.survey ∙ rw s }
