-- `Clock::reading` meets its contract: the code is the definition, and the product and phase fit. Assumes nothing.
use Prim.Native.Nat.{ℕ, ◌+◌, ◌*◌, ◌^◌, ◌≤◌, ◌<◌}
use native.Mathlib.Nat.{mul-le-mul}
use native.Mathlib.Omega.{arith}
use Rattle.rule.specs.Clock.{reads}
use Rattle.rule.proofs.clock.Clock.reading.Goals as goal

-- the product fits, by the largest tick and the largest drift
fits : {t d : ℕ} → t < 2 ^ 43 → d ≤ 10000 → t * (1000000 + d) ≤ 2 ^ 43 * 1010000
fits {t} {d} a b = mul-le-mul {n₁ = t} {m₁ = 1000000 + d} {n₂ = 2 ^ 43} {m₂ = 1010000} (omega arith) (omega arith)

pub overflow_mul-result : goal.overflow_mul-result
overflow_mul-result c = omega (arith, fits c.requires.1 c.requires.0.slow)

pub overflow_add-result-2 : goal.overflow_add-result-2
overflow_add-result-2 c = omega (arith, fits c.requires.1 c.requires.0.slow)

pub returns : goal.returns
unfolding reads
returns c = omega arith
