-- `polzaintu_seam_columns` meets its contract. Assumes nothing.
use mathlib.Core.Path.{◌∙◌}
use Rattle.calls.specs.Answers.{columns_number, columns_left}
use Rattle.polzaintu.proofs.polzaintu_seam_columns.Goals as goal

pub returns : goal.returns
unfolding columns_number columns_left
returns c = record {
  number = c.left_within.ensures.number ∙ rw (c.columns_of.ensures, c.settings_in.ensures);
  columns = c.left_within.ensures.lent ∙ rw (c.columns_of.ensures, c.settings_in.ensures);
}
