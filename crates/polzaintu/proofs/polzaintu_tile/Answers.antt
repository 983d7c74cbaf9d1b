-- `polzaintu_tile` meets its contract. Assumes nothing.
use mathlib.Core.Path.{◌∙◌}
use Rattle.calls.specs.Answers.{forwarded_left}
use Rattle.polzaintu.proofs.polzaintu_tile.Goals as goal

pub returns : goal.returns
unfolding forwarded_left
returns c = record {
  number = c.left.ensures.number ∙ rw (c.forward.ensures, c.settings_in.ensures, c.stamps_in.ensures);
  answer = c.left.ensures.lent ∙ rw (c.forward.ensures, c.settings_in.ensures, c.stamps_in.ensures);
}
