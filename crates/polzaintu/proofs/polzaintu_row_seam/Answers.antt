-- `polzaintu_row_seam` meets its contract. Assumes nothing.
use mathlib.Core.Path.{◌∙◌}
use Rattle.polzaintu.proofs.polzaintu_row_seam.Goals as goal

pub returns : goal.returns
returns c = record {
  number = c.row_seam_left.ensures.number ∙ rw (c.row_seam.ensures, c.settings_in.ensures);
  columns = c.row_seam_left.ensures.columns ∙ rw (c.row_seam.ensures, c.settings_in.ensures);
  side = c.row_seam_left.ensures.side ∙ rw (c.row_seam.ensures, c.settings_in.ensures);
  halves = c.row_seam_left.ensures.halves ∙ rw (c.row_seam.ensures, c.settings_in.ensures);
}
