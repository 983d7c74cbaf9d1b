-- `forwarding::middle` meets its contract: below one turn the lift needs no division. Assumes nothing.
use Prim.Native.Nat.{ℕ, ◌-◌, ◌*◌, ◌/◌, ◌≤◌}
use native.Mathlib.Nat.{mul-div-le, mod-le}
use native.Mathlib.Omega.{arith}
use Rattle.rule.specs.Closed.{lift, middle}
use Rattle.rule.proofs.Laws.Middle.{lift_small}
use Rattle.rule.proofs.forwarding.middle.Goals as goal

turns : (h g : ℕ) → 8 * h * (g / (16 * h)) ≤ g
turns h g = omega (arith, mul-div-le g (16 * h))

pub returns-then-gap-turn : goal.returns-then-gap-turn
unfolding middle
returns-then-gap-turn c = let a = c.args in
    omega (arith, c.saturating_sub.ensures, lift_small a.unit (a.most - a.least) c.if-gap-turn.true)

pub overflow_mul-result : goal.overflow_mul-result
overflow_mul-result c = let a = c.args in omega (arith, turns a.unit (a.most - a.least))

pub overflow_add-result-2 : goal.overflow_add-result-2
overflow_add-result-2 c = let a = c.args in omega (arith, turns a.unit (a.most - a.least))

pub overflow_add-result-3 : goal.overflow_add-result-3
overflow_add-result-3 c = let a = c.args in
    let gap = a.most - a.least in
    omega (arith, turns a.unit gap, mod-le gap (16 * a.unit), c.saturating_sub-2.ensures)

pub returns : goal.returns
unfolding middle lift
returns c = omega (arith, c.saturating_sub-2.ensures)
