-- `stamp_in` meets its contract. Assumes nothing.
use mathlib.Core.Path.{◌∙◌, ap}
use Prim.Native.Nat.{◌<◌}
use lib.IntN.{pos}
use mir.Syntax.{w64}
use mir.ValLaws.{to_z_pos}
use native.Mathlib.Omega.{arith}
use Rattle.layout.specs.Words.{stamp_in}
use Rattle.layout.proofs.Laws.{at_most_is}
use Rattle.layout.proofs.stamp_in.Goals.{After-min}
use Rattle.layout.proofs.stamp_in.Goals as goal

-- the stamp fits
small : (c : After-min) → c.min.result < 9223372036854775808
small c = omega (arith, c.min.ensures)

pub overflow_cast-result : goal.overflow_cast-result
overflow_cast-result c = record { sfits = small c }

pub returns : goal.returns
unfolding stamp_in
returns c = to_z_pos w64 c.min.result (small c) ∙ ap pos (c.min.ensures ∙ at_most_is _ c.args.word)
