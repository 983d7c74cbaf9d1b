-- `step` meets its contract: the code is the definition, and the sums and products fit. Assumes nothing.
use mathlib.Core.Path.{◌∙◌, ap}
use Prim.Native.Nat.{ℕ, ◌+◌, ◌*◌, ◌≤◌}
use native.Mathlib.Nat.{mul-le-mul}
use native.Mathlib.Omega.{arith}
use Rattle.settings.specs.Settings.{step}
use Rattle.settings.proofs.Laws.Rounding.{up_is, up_least}
use Rattle.settings.proofs.step.Goals as goal

product : (h r : ℕ) → h ≤ 62500 → r ≤ 10000 → 2 * h * r ≤ 1250000000
product h r a b = omega (arith, mul-le-mul {n₁ = 2 * h} {m₁ = r} {n₂ = 125000} {m₂ = 10000} (omega arith) b)

pub overflow_mul-h-2 : goal.overflow_mul-h-2
overflow_mul-h-2 c = omega (arith, product c.args.h c.args.r c.requires.0 c.requires.1)

pub overflow_add-result : goal.overflow_add-result
overflow_add-result c = omega (arith, product c.args.h c.args.r c.requires.0 c.requires.1, c.div_ceil.ensures, up_is (2 * c.args.h * c.args.r) {b = 1000000} (omega arith), up_least (2 * c.args.h * c.args.r) {b = 1000000} (omega arith))

pub returns : goal.returns
unfolding step
returns c = ap (λ (x : ℕ). 2 * c.args.h + x) (c.div_ceil.ensures ∙ up_is (2 * c.args.h * c.args.r) (omega arith))
