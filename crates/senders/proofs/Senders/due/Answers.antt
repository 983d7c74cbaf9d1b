-- `due` meets its contract: P in closed form, and the hold. Assumes nothing.
use mathlib.Core.Path.{◌≡◌}
use Prim.Native.Nat.{◌≤◌}
use native.Mathlib.Omega.{arith}
use Rattle.settings.specs.Settings.{step_of}
use Rattle.settings.proofs.Laws.Settings.{limits}
use Rattle.rule.specs.Stamp.{stamp_of, code_of, earliest, latest}
use Rattle.rule.specs.Closed.{closed_P}
use Rattle.senders.specs.Senders.{code_at, neighbour_stamps, unheard}
use Rattle.senders.proofs.Laws.Due.{Sound, asked, due_is, due_small, no_due}
use Rattle.senders.proofs.Senders.due.Goals.{After-adopted-fixed, Else-unheard-gt1, Start}
use Rattle.senders.proofs.Senders.due.Goals as goal

sound : (s : Start) → Sound s.args.settings s.args.self
sound s = record { checked = s.requires.0; fit = s.requires.1 }

few : (c : Else-unheard-gt1) → unheard c.args.self ≤ 1
few c = omega (arith, c.unheard.ensures, c.if-unheard-gt1.false)

-- P, in closed form
adopted_is : (c : After-adopted-fixed) → let x = c.args.self in
    c.adopted-fixed.result.p ≡ closed_P c.args.settings.unit (step_of c.args.settings) (stamp_of (code_at x 0))
    (stamp_of (code_of (earliest (neighbour_stamps x)))) (stamp_of (code_of (latest (neighbour_stamps x))))
unfolding step_of code_at
adopted_is c = rw (c.step.ensures, c.ends-ends.ensures.least, c.ends-ends.ensures.most) at c.adopted-fixed.ensures.p

pub returns-then-unheard-gt1 : goal.returns-then-unheard-gt1
returns-then-unheard-gt1 c = let a = c.args in
    no_due a.settings a.self (omega (arith, c.unheard.ensures, c.if-unheard-gt1.true))

pub step-requires : goal.step-requires
step-requires c = let k = limits c.args.settings c.requires.0 in (k.unit.1, k.drift)

pub adopted-fixed-requires : goal.adopted-fixed-requires
unfolding step_of code_at
adopted-fixed-requires c = rw (c.step.ensures, c.ends-ends.ensures.least, c.ends-ends.ensures.most) (asked (sound (goal.at.adopted-fixed-requires c).Start) (few (goal.at.adopted-fixed-requires c).Else-unheard-gt1))

pub overflow_add-result : goal.overflow_add-result
overflow_add-result c = rw (adopted_is (goal.at.overflow_add-result c).After-adopted-fixed) (record { fits = omega (arith, due_small (sound (goal.at.overflow_add-result c).Start) (few (goal.at.overflow_add-result c).Else-unheard-gt1)) })

pub returns : goal.returns
returns c = rw (adopted_is (goal.at.returns c).After-adopted-fixed) (due_is (sound (goal.at.returns c).Start) (few (goal.at.returns c).Else-unheard-gt1))
