-- Settings: their limits, what is made of them, and the numbers 1 to 9. Assumes nothing.
use Rattle.std.specs.Prelude.{List, [], ◌∷◌, ℕ, ◌+◌, ◌*◌, ltb, Option, Result}
use Rattle.settings.specs.Refusal.{Test, first, ◌when◌, outside, refused, answer}
use Rattle.settings.specs.Rounding.{up}
use Rattle.settings.specs.declared.Settings.{Settings}
use Rattle.settings.specs.declared.refusal.Refusal.{Refusal}
use Rattle.settings.specs.declared.refusal.Refusal.TheVariants.{Width, Rows, Delay, Uncertainty, Hold, Drift, Unit as Units, UnitCost, UnitsHeld}

-- §2.6 the record of the seven numbers
unfoldable pub settings : (w rows d u a r h : ℕ) → Settings
settings w rows d u a r h =
    record { width = w; rows = rows; delay = d; uncertainty = u; hold = a; drift = r; unit = h }

-- §2.2 c: r × A / (1,000,000 + r), rounded up
unfoldable pub drift_cost : (r a : ℕ) → ℕ
drift_cost r a = up (r * a) (1000000 + r)

-- §2.4 J: 2h, and 2h × r / 1,000,000 rounded up
unfoldable pub step : (h r : ℕ) → ℕ
step h r = 2 * h + up (2 * h * r) 1000000

-- §2.4 J of settings, by their unit and drift limit
unfoldable pub step_of : Settings → ℕ
step_of s = step s.unit s.drift

-- §2.5 the nine tests, in the order of their numbers
unfoldable pub settings_tests : Settings → List Test
settings_tests s =
    Width when outside 6 256 s.width
    ∷ Rows when outside 1 1024 s.rows
    ∷ Delay when outside 1 1000000 s.delay
    ∷ Uncertainty when outside 0 s.delay s.uncertainty
    ∷ Hold when outside 1 1000000 s.hold
    ∷ Drift when outside 0 10000 s.drift
    ∷ Units when outside 1 62500 s.unit
    ∷ UnitCost when ltb s.unit (s.uncertainty + drift_cost s.drift s.hold + 2)
    ∷ UnitsHeld when ltb s.hold (16 * s.unit)
    ∷ []

-- §2.5 why settings are turned away, where they are
unfoldable pub settings_cause : Settings → Option Refusal
settings_cause s = first (settings_tests s)

-- §2.5 the number under which settings are turned away, 0 where they pass
unfoldable pub settings_refusal : Settings → ℕ
settings_refusal s = refused (settings_cause s)

-- §2.6 the record where every test is passed, and otherwise the refusal
unfoldable pub checked : Settings → Result Settings Refusal
checked s = answer (settings_cause s) s
