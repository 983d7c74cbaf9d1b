-- The proofs of what specs/Promises.antt states. Assumes nothing.
use Prim.Native.Nat.{◌+◌, ◌*◌, ◌<◌}
use native.Mathlib.Omega.{arith}
use Rattle.settings.specs.Settings.{drift_cost, step, settings_cause, settings_refusal, checked}
use Rattle.settings.specs.Promises.{CostRoundedUp, StepRoundedUp, SettingsAnswered}
use Rattle.settings.proofs.Laws.Refusal.{answered_number, accepted}
use Rattle.settings.proofs.Laws.Rounding.{up_reaches, up_least}

pub cost_rounded_up : CostRoundedUp
unfolding CostRoundedUp drift_cost
cost_rounded_up r a = let b : 0 < 1000000 + r = omega arith in (up_reaches (r * a) b, up_least (r * a) b)

pub step_rounded_up : StepRoundedUp
unfolding StepRoundedUp step
step_rounded_up h r =
    let b : 0 < 1000000 = omega arith in
    (omega (arith, up_reaches (2 * h * r) b), omega (arith, up_least (2 * h * r) b))

pub settings_answered : SettingsAnswered
unfolding SettingsAnswered checked settings_refusal
settings_answered s = (answered_number (settings_cause s) s, accepted (settings_cause s) s)
