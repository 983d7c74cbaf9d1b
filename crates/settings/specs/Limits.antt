-- The limits of settings in numbers and inequalities alone, apart from the tests of the refusals. Assumes nothing.
use Rattle.std.specs.Prelude.{◌≡◌, ◌↔◌, ℕ, ◌+◌, ◌*◌, ◌≤◌, ◌<◌}
use Rattle.settings.specs.Settings.{settings_refusal}
use Rattle.settings.specs.declared.Settings.{Settings}

-- §2.1 W, R, d, u, A, r and h within their ranges, h as large as §2.2 asks and A as §2.3 does
pub record Limits (s : Settings) : Type 0 where
  pub width : (6 ≤ s.width) × (s.width ≤ 256)
  pub rows : (1 ≤ s.rows) × (s.rows ≤ 1024)
  pub delay : (1 ≤ s.delay) × (s.delay ≤ 1000000)
  pub uncertainty : s.uncertainty ≤ s.delay
  pub hold : (1 ≤ s.hold) × (s.hold ≤ 1000000)
  pub drift : s.drift ≤ 10000
  pub unit : (1 ≤ s.unit) × (s.unit ≤ 62500)
  -- c is r × A / (1,000,000 + r), rounded up: it is enough, and one less is not
  pub c : ℕ
  pub c_enough : s.drift * s.hold ≤ c * (1000000 + s.drift)
  pub c_least : c * (1000000 + s.drift) < s.drift * s.hold + (1000000 + s.drift)
  -- h is at least u + c + 2, and A at least 16h
  pub cost : s.uncertainty + c + 2 ≤ s.unit
  pub held : 16 * s.unit ≤ s.hold

-- §2.5 settings keep their limits exactly where they are not turned away
unfoldable pub SettingsPlain : Type 0
SettingsPlain = (s : Settings) → Limits s ↔ (settings_refusal s ≡ 0)
