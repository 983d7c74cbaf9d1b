-- `polzaintu_widest_gap` meets its contract. Assumes nothing.
use mathlib.Core.Path.{◌∙◌}
use Rattle.calls.specs.Answers.{gap_left}
use Rattle.polzaintu.proofs.polzaintu_widest_gap.Goals as goal

pub returns : goal.returns
unfolding gap_left
returns c = record {
  number = c.left.ensures.number ∙ rw (c.widest_gap.ensures, c.settings_in.ensures);
  gap = c.left.ensures.lent ∙ rw (c.widest_gap.ensures, c.settings_in.ensures);
}
