-- `polzaintu_link_place` meets its contract. Assumes nothing.
use mathlib.Core.Path.{◌∙◌}
use Rattle.calls.specs.Answers.{link_number, link_left}
use Rattle.polzaintu.proofs.polzaintu_link_place.Goals as goal

pub returns : goal.returns
unfolding link_number link_left
returns c = record {
  number = c.left_within.ensures.number ∙ rw (c.place_of.ensures, c.settings_in.ensures);
  place = c.left_within.ensures.lent ∙ rw (c.place_of.ensures, c.settings_in.ensures);
}
