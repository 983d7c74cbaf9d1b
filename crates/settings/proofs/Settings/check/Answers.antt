-- `Settings::check` meets its contract: each test that was passed does not apply, so the refusal given is the first that does. Assumes nothing.
use mathlib.Core.Path.{sym, ◌∙◌}
use Prim.Native.Nat.{◌≤◌}
use native.Mathlib.Omega.{arith}
use Rattle.settings.specs.Settings.{drift_cost}
use Rattle.settings.proofs.Laws.Refusal.{inside}
use Rattle.settings.proofs.Laws.Settings.{drift_cost_small}
use Rattle.settings.proofs.Settings.check.Goals as goal
use Rattle.settings.proofs.Settings.check.Goals.{Else-outside-7}

-- what the first seven tests leave
bounds : (c : Else-outside-7) → let s = c.args.self in (s.uncertainty ≤ 1000000) × (s.hold ≤ 1000000) × (s.drift ≤ 10000) × (s.unit ≤ 62500) × (drift_cost s.drift s.hold ≤ 10001)
bounds c =
    let s = c.args.self in
    let delay = inside 1 1000000 s.delay (sym c.outside-3.ensures ∙ c.if-outside-3.false) in
    let hold = inside 1 1000000 s.hold (sym c.outside-5.ensures ∙ c.if-outside-5.false) in
    let drift = inside 0 10000 s.drift (sym c.outside-6.ensures ∙ c.if-outside-6.false) in (
      omega (arith, inside 0 s.delay s.uncertainty (sym c.outside-4.ensures ∙ c.if-outside-4.false)),
      hold.1,
      drift.1,
      (inside 1 62500 s.unit (sym c.outside-7.ensures ∙ c.if-outside-7.false)).1,
      drift_cost_small s.drift s.hold drift.1 hold.1,
    )

pub drift_cost-requires : goal.drift_cost-requires
drift_cost-requires c = let b = bounds c in (b.2, b.1)

pub overflow_add-self : goal.overflow_add-self
overflow_add-self c = let b = bounds (goal.at.overflow_add-self c).Else-outside-7 in omega (arith, c.drift_cost.ensures)

pub overflow_add-self-2 : goal.overflow_add-self-2
overflow_add-self-2 c = let b = bounds (goal.at.overflow_add-self-2 c).Else-outside-7 in omega (arith, c.drift_cost.ensures)

pub overflow_mul-self : goal.overflow_mul-self
overflow_mul-self c = let b = bounds (goal.at.overflow_mul-self c).Else-outside-7 in omega arith
