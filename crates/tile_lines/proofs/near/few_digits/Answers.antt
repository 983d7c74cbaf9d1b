-- `near::few_digits` meets its contract. Assumes nothing.
use mathlib.Core.Path.{◌≡◌, refl}
use Prim.Native.Nat.{ℕ, zero, suc, ◌+◌, ◌-◌, ◌*◌, ◌^◌, ◌≤◌, ◌<◌}
use native.Mathlib.Nat.{pow-succ'}
use native.Mathlib.Omega.{arith}
use Rattle.tile_lines.specs.Near.{Serves, Right}
use Rattle.tile_lines.proofs.Laws.Near.{power_next, power_below, of_digits, digits_serve}
use Rattle.tile_lines.proofs.near.few_digits.Goals as goal

-- the times of as many digits
served : (low d t : ℕ) → low * 10 ≡ 10 ^ d → 2 ≤ d → d ≤ 8 → low ≤ t → t < low * 10 → Serves (of_digits low (low * 9) (64 - 8 * d) d) t
served low zero t e i j k l = let never : ⊥ = omega arith in absurd never
served low (suc m) t e i j k l =
    digits_serve low (low * 9) (64 - 8 * suc m) m t (omega arith) (omega arith) (omega arith) (λ z. omega (arith, pow-succ' 10 m))

-- the power of ten below a time of two digits or more
some : (k t : ℕ) → 10 ≤ t → t < 10 * 10 ^ k → 0 < k
some zero t i j = let never : ⊥ = omega arith in absurd never
some (suc k) t i j = omega arith

pub returns-then-time-lt10 : goal.returns-then-time-lt10
unfolding Right
returns-then-time-lt10 c = let serves : (t : ℕ) → t < 10 → Serves (of_digits 0 10 56 1) t = λ t i. digits_serve 0 10 56 0 t (omega arith) refl (omega arith) (omega arith) in
    (λ t i j. serves t (omega arith), serves c.args.time c.if-time-lt10.true)

pub pow-low-requires : goal.pow-low-requires
pow-low-requires c = omega (arith, c.ilog10-power.ensures.power_le)

pub overflow_mul-result : goal.overflow_mul-result
overflow_mul-result c = omega (arith, c.ilog10-power.ensures.power_le, c.pow-low.ensures)

pub overflow_mul-result-2 : goal.overflow_mul-result-2
overflow_mul-result-2 c = omega (arith, power_below c.ilog10-power.result (omega (arith, c.ilog10-power.ensures.power_le)))

pub overflow_sub-result : goal.overflow_sub-result
overflow_sub-result c = omega (arith, power_below c.ilog10-power.result (omega (arith, c.ilog10-power.ensures.power_le)))

pub returns : goal.returns
unfolding Right
returns c = let k = c.ilog10-power.result in
    let low = c.pow-low.result in
    let power : low ≡ 10 ^ k = c.pow-low.ensures in
    let next : low * 10 ≡ 10 ^ (k + 1) = omega (arith, power_next k, power) in
    let below : k < 8 = power_below k (omega (arith, c.ilog10-power.ensures.power_le)) in
    let two : 0 < k = some k c.args.time (omega arith) c.ilog10-power.ensures.next_power_gt in
    let least : low ≤ c.args.time = omega (arith, power, c.ilog10-power.ensures.power_le) in
    let past : c.args.time < low * 10 = omega (arith, power, c.ilog10-power.ensures.next_power_gt) in
    (λ t i j. served low (k + 1) t next (omega arith) (omega arith) i (omega arith), served low (k + 1) c.args.time next (omega arith) (omega arith) least past)
