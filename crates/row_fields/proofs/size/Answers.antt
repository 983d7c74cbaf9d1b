-- `size` meets its contract. Assumes nothing.
use mathlib.Core.Path.{refl}
use Rattle.columns.specs.Marks.{mark_bytes}
use Rattle.contents.specs.Contents.{marks_field, row_size}
use Rattle.row_fields.proofs.size.Goals as goal

pub returns : goal.returns
unfolding row_size marks_field mark_bytes
returns c = refl
