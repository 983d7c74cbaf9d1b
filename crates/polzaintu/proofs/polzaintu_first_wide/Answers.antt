-- `polzaintu_first_wide` meets its contract. Assumes nothing.
use mathlib.Core.Path.{◌∙◌}
use Rattle.polzaintu.proofs.polzaintu_first_wide.Goals as goal

pub returns : goal.returns
returns c = record {
  number = c.first_wide_left.ensures.number ∙ rw (c.first_wide.ensures, c.settings_in.ensures);
  found = c.first_wide_left.ensures.found ∙ rw (c.first_wide.ensures, c.settings_in.ensures);
  wide = c.first_wide_left.ensures.wide ∙ rw (c.first_wide.ensures, c.settings_in.ensures);
}
