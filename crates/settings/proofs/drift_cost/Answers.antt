-- `drift_cost` meets its contract: the code is the definition, and the product fits. Assumes nothing.
use mathlib.Core.Path.{◌∙◌}
use Prim.Native.Nat.{◌*◌}
use native.Mathlib.Nat.{mul-le-mul}
use native.Mathlib.Omega.{arith}
use Rattle.settings.specs.Settings.{drift_cost}
use Rattle.settings.proofs.Laws.Rounding.{up_is}
use Rattle.settings.proofs.drift_cost.Goals as goal

pub overflow_mul-r : goal.overflow_mul-r
overflow_mul-r c = omega (arith, mul-le-mul {n₁ = c.args.r} {m₁ = c.args.a} {n₂ = 10000} {m₂ = 1000000} (omega arith) (omega arith))

pub returns : goal.returns
unfolding drift_cost
returns c = c.div_ceil.ensures ∙ up_is (c.args.r * c.args.a) (omega arith)
