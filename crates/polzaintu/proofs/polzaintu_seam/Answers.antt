-- `polzaintu_seam` meets its contract. Assumes nothing.
use mathlib.Core.Path.{◌∙◌}
use Rattle.polzaintu.proofs.polzaintu_seam.Goals as goal

pub returns : goal.returns
returns c = record {
  number = c.seam_left.ensures.number ∙ rw c.join.ensures;
  side = c.seam_left.ensures.side ∙ rw c.join.ensures;
  halves = c.seam_left.ensures.halves ∙ rw c.join.ensures;
}
