-- `by_ends` meets its contract: the rule's P and letter, and the first tick that reads P and the hold. Assumes nothing.
use Prim.Native.Nat.{◌≤◌}
use native.Mathlib.Omega.{arith}
use Rattle.rule.proofs.Laws.Coded.{P_small}
use Rattle.pulse.proofs.by_ends.Goals.{After-adopted-fixed}
use Rattle.pulse.proofs.by_ends.Goals as goal

small : (c : After-adopted-fixed) → c.adopted-fixed.result.p ≤ 4398046698604
small c = rw c.adopted-fixed.ensures.p (P_small c.requires.forwardable)

pub overflow_add-fixed : goal.overflow_add-fixed
overflow_add-fixed c = omega (arith, small (goal.at.overflow_add-fixed c).After-adopted-fixed, c.requires.admitted)

pub first_tick-requires : goal.first_tick-requires
first_tick-requires c = omega (arith, small (goal.at.first_tick-requires c).After-adopted-fixed, c.requires.admitted)
