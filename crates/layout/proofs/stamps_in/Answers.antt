-- `stamps_in` meets its contract. Assumes nothing.
use mathlib.Core.Path.{◌∙◌}
use mir.Syntax.{w64}
use mir.ValLaws.{to_z-of_z}
use native.Mathlib.Omega.{arith}
use Rattle.layout.specs.Words.{stamps_in}
use Rattle.layout.proofs.Laws.{at_most_is}
use Rattle.layout.proofs.stamps_in.Goals as goal

pub overflow_cast-result : goal.overflow_cast-result
overflow_cast-result c = omega (arith, c.min.ensures)

pub returns : goal.returns
unfolding stamps_in
returns c = rw (
  to_z-of_z w64 c.stamp_in.result (record { sfits = c.stamp_in.type_inv }),
  c.stamp_in.ensures,
  to_z-of_z w64 c.stamp_in-2.result (record { sfits = c.stamp_in-2.type_inv }),
  c.stamp_in-2.ensures,
  to_z-of_z w64 c.stamp_in-3.result (record { sfits = c.stamp_in-3.type_inv }),
  c.stamp_in-3.ensures,
  to_z-of_z w64 c.stamp_in-4.result (record { sfits = c.stamp_in-4.type_inv }),
  c.stamp_in-4.ensures,
  c.min.ensures ∙ at_most_is _ _,
)
