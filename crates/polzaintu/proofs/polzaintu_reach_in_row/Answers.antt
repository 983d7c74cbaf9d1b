-- `polzaintu_reach_in_row` meets its contract. Assumes nothing.
use mathlib.Core.Path.{◌∙◌}
use Rattle.calls.specs.Answers.{reach_number, reach_left}
use Rattle.polzaintu.proofs.polzaintu_reach_in_row.Goals as goal

pub returns : goal.returns
unfolding reach_number reach_left
returns c = record {
  number = c.left_within.ensures.number ∙ rw (c.reach_in_row-reached.ensures, c.settings_in.ensures);
  range = c.left_within.ensures.lent ∙ rw (c.reach_in_row-reached.ensures, c.settings_in.ensures);
}
