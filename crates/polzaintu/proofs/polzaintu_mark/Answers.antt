-- `polzaintu_mark` meets its contract. Assumes nothing.
use mathlib.Core.Path.{◌∙◌}
use Rattle.calls.specs.Answers.{mark_number, mark_left}
use Rattle.polzaintu.proofs.polzaintu_mark.Goals as goal

pub returns : goal.returns
unfolding mark_number mark_left
returns c = record {
  number = c.left_within.ensures.number ∙ rw (c.mark_of.ensures, c.settings_in.ensures);
  faulty = c.left_within.ensures.lent ∙ rw (c.mark_of.ensures, c.settings_in.ensures);
}
