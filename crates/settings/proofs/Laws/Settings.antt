-- What the settings' limits give: c and J stay small, and J is at most 3h. Assumes nothing.
use mathlib.Core.Path.{◌≡◌}
use Prim.Native.Nat.{ℕ, ◌+◌, ◌*◌, ◌≤◌, ◌<◌}
use native.Mathlib.Nat.{mul-le-mul}
use native.Mathlib.Omega.{arith}
use lib.Dec.{ltb}
use borrow.Author.Tests.{ltb-false}
use Rattle.settings.specs.Refusal.{outside}
use Rattle.settings.specs.Settings.{drift_cost, step, settings_tests, settings_cause, settings_refusal}
use Rattle.settings.specs.declared.Settings.{Settings}
use Rattle.settings.specs.declared.refusal.Refusal.TheVariants as why
pub use Rattle.settings.specs.Limits.{Limits}
use Rattle.settings.proofs.Laws.Refusal.{unhit, inside}
use Rattle.settings.proofs.Laws.Rounding.{up_reaches, up_least}

pub drift_cost_small : (r a : ℕ) → r ≤ 10000 → a ≤ 1000000 → drift_cost r a ≤ 10001
unfolding drift_cost
drift_cost_small r a i k =
    omega (arith, up_least (r * a) {b = 1000000 + r} (omega arith), mul-le-mul {n₁ = r} {m₁ = a} {n₂ = 10000} {m₂ = 1000000} i k)

-- J is at most 3h
pub step_small : (h r : ℕ) → 0 < h → r ≤ 10000 → step h r ≤ 3 * h
unfolding step
step_small h r i k =
    omega (arith, up_least (2 * h * r) {b = 1000000} (omega arith), mul-le-mul {n₁ = h} {m₁ = r} {n₂ = h} {m₂ = 10000} (omega arith) k)

-- settings that are not turned away keep their limits
pub limits : (s : Settings) → settings_refusal s ≡ 0 → Limits s
unfolding settings_refusal settings_cause settings_tests drift_cost
limits s e =
    let t1 = unhit why.Width (outside 6 256 s.width) _ e in
    let t2 = unhit why.Rows (outside 1 1024 s.rows) _ t1.1 in
    let t3 = unhit why.Delay (outside 1 1000000 s.delay) _ t2.1 in
    let t4 = unhit why.Uncertainty (outside 0 s.delay s.uncertainty) _ t3.1 in
    let t5 = unhit why.Hold (outside 1 1000000 s.hold) _ t4.1 in
    let t6 = unhit why.Drift (outside 0 10000 s.drift) _ t5.1 in
    let t7 = unhit why.Unit (outside 1 62500 s.unit) _ t6.1 in
    let t8 = unhit why.UnitCost (ltb s.unit (s.uncertainty + drift_cost s.drift s.hold + 2)) _ t7.1 in
    let t9 = unhit why.UnitsHeld (ltb s.hold (16 * s.unit)) _ t8.1 in
    record {
      width = omega (arith, inside 6 256 s.width t1.0);
      rows = omega (arith, inside 1 1024 s.rows t2.0);
      delay = omega (arith, inside 1 1000000 s.delay t3.0);
      uncertainty = omega (arith, inside 0 s.delay s.uncertainty t4.0);
      hold = omega (arith, inside 1 1000000 s.hold t5.0);
      drift = omega (arith, inside 0 10000 s.drift t6.0);
      unit = omega (arith, inside 1 62500 s.unit t7.0);
      c = drift_cost s.drift s.hold;
      c_enough = up_reaches (s.drift * s.hold) {b = 1000000 + s.drift} (omega arith);
      c_least = up_least (s.drift * s.hold) {b = 1000000 + s.drift} (omega arith);
      cost = omega (arith, ltb-false s.unit (s.uncertainty + drift_cost s.drift s.hold + 2) t8.0);
      held = omega (arith, ltb-false s.hold (16 * s.unit) t9.0);
    }
