-- The statements of specs/Cases.antt, computed. Assumes nothing.
use mathlib.Core.Path.{refl}
use Rattle.settings.specs.Refusal.{first, answer, outside}
use Rattle.settings.specs.Rounding.{up}
use Rattle.settings.specs.Settings.{settings, drift_cost, step, step_of, settings_tests, settings_cause, settings_refusal, checked}
use Rattle.settings.specs.Cases.{RefusalNumbers, ◌is◌, SettingsCases, RangeEnds, JointLimits, SettingsOrder, CostCases, StepCases}

-- what a number, c and J are computed by
unfoldable pub settings_computed : Unit {0}
unfolding settings settings_refusal settings_cause settings_tests first outside drift_cost step_of step up
settings_computed = tt

pub refusal_numbers : RefusalNumbers
unfolding RefusalNumbers
refusal_numbers = (refl, refl, refl, refl, refl, refl, refl, refl, refl, refl, refl, refl, refl, refl, refl, refl, refl, refl, refl, refl, refl, refl, refl, refl, refl, refl, refl, refl)

pub settings_cases : SettingsCases
unfolding settings_computed checked answer ◌is◌ SettingsCases
settings_cases = (refl, refl, refl, refl, refl, refl)

pub range_ends : RangeEnds
unfolding settings_computed ◌is◌ RangeEnds
range_ends = (refl, refl, refl, refl, refl, refl, refl, refl, refl, refl, refl, refl, refl, refl, refl, refl, refl)

pub joint_limits : JointLimits
unfolding settings_computed ◌is◌ JointLimits
joint_limits = (refl, refl, refl, refl, refl, refl, refl, refl)

pub settings_order : SettingsOrder
unfolding settings_computed ◌is◌ SettingsOrder
settings_order = (refl, refl, refl, refl, refl, refl, refl, refl, refl, refl)

pub cost_cases : CostCases
unfolding settings_computed CostCases
cost_cases = (refl, refl, refl, refl, refl)

pub step_cases : StepCases
unfolding settings_computed StepCases
step_cases = (refl, refl, refl, refl, refl, refl)
