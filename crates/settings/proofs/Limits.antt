-- The proof of what specs/Limits.antt states: past each test by its limit, and back by `limits`. Assumes nothing.
use mathlib.Core.Path.{◌≡◌, ◌∙◌}
use Prim.Native.Nat.{ℕ, ◌+◌, ◌*◌, ◌≤◌, ◌<◌}
use native.Mathlib.Nat.{lt_of_mul-lt-mul_right}
use native.Mathlib.Omega.{arith}
use borrow.Author.Tests.{le-ltb}
use Rattle.settings.specs.Settings.{drift_cost, settings_tests, settings_cause, settings_refusal}
use Rattle.settings.specs.Limits.{Limits, SettingsPlain}
use Rattle.settings.specs.declared.Settings.{Settings}
use Rattle.settings.specs.declared.refusal.Refusal.TheVariants as why
use Rattle.settings.proofs.Laws.Refusal.{skip, end, no_number, within}
use Rattle.settings.proofs.Laws.Rounding.{up_least}
use Rattle.settings.proofs.Laws.Settings.{limits}

-- a number that is enough is no smaller than the one rounded up
cost_most : (r a c : ℕ) → r * a ≤ c * (1000000 + r) → drift_cost r a ≤ c
unfolding drift_cost
cost_most r a c i =
    let below : drift_cost r a * (1000000 + r) < (c + 1) * (1000000 + r) = omega (arith, i, up_least (r * a) {b = 1000000 + r} (omega arith)) in
    omega (arith, lt_of_mul-lt-mul_right (1000000 + r) below)

kept : (s : Settings) → Limits s → settings_refusal s ≡ 0
unfolding settings_refusal settings_cause settings_tests
kept s k =
    no_number (settings_cause s)
    (skip why.Width _ (within 6 256 s.width (omega (arith, k.width)) (omega (arith, k.width)))
    ∙ skip why.Rows _ (within 1 1024 s.rows (omega (arith, k.rows)) (omega (arith, k.rows)))
    ∙ skip why.Delay _ (within 1 1000000 s.delay (omega (arith, k.delay)) (omega (arith, k.delay)))
    ∙ skip why.Uncertainty _ (within 0 s.delay s.uncertainty (omega arith) (omega (arith, k.uncertainty)))
    ∙ skip why.Hold _ (within 1 1000000 s.hold (omega (arith, k.hold)) (omega (arith, k.hold)))
    ∙ skip why.Drift _ (within 0 10000 s.drift (omega arith) (omega (arith, k.drift)))
    ∙ skip why.Unit _ (within 1 62500 s.unit (omega (arith, k.unit)) (omega (arith, k.unit)))
    ∙ skip why.UnitCost _ (le-ltb s.unit _ (omega (arith, k.cost, cost_most s.drift s.hold k.c k.c_enough)))
    ∙ end why.UnitsHeld (le-ltb s.hold (16 * s.unit) (omega (arith, k.held))))

pub settings_plain : SettingsPlain
unfolding SettingsPlain
settings_plain s = (kept s, limits s)
