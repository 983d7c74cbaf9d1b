-- What is promised of settings. Each statement is proved in proofs/Promises.antt, under its name in small letters.
-- Assumes nothing.
use Rattle.std.specs.Prelude.{◌≡◌, ℕ, ◌+◌, ◌*◌, ◌≤◌, ◌<◌, Ok}
use Rattle.settings.specs.Refusal.{number_in}
use Rattle.settings.specs.Settings.{drift_cost, step, settings_refusal, checked}
use Rattle.settings.specs.declared.Settings.{Settings}

-- §2.2 c is the least whole number that is enough
unfoldable pub CostRoundedUp : Type 0
CostRoundedUp =
    (r a : ℕ) → (r * a ≤ drift_cost r a * (1000000 + r)) × (drift_cost r a * (1000000 + r) < r * a + (1000000 + r))

-- §2.4 J is the least whole number that is no less than 2h × (1,000,000 + r) / 1,000,000
unfoldable pub StepRoundedUp : Type 0
StepRoundedUp =
    (h r : ℕ) → (2 * h * (1000000 + r) ≤ step h r * 1000000) × (step h r * 1000000 < 2 * h * (1000000 + r) + 1000000)

-- §13.4 the answer has the settings' number, and where that is 0 the record
unfoldable pub SettingsAnswered : Type 0
SettingsAnswered =
    (s : Settings) → (number_in (checked s) ≡ settings_refusal s) × (settings_refusal s ≡ 0 → checked s ≡ Ok s)
