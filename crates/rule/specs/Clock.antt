-- A tile's clock: what it reads at a true tick, and the first tick at which it reads enough. Assumes nothing.
use Rattle.std.specs.Prelude.{ℕ, ◌+◌, ◌-◌, ◌*◌, ◌/◌, ◌≤◌}
use Rattle.settings.specs.Rounding.{up}
use Rattle.rule.specs.declared.clock.Clock.{Clock}

-- §3.1 the parts that drift is counted in, and phases (§E4.1)
abbrev pub million : ℕ
million = 1000000

-- §E4.1 the largest phase
abbrev pub phase_most : ℕ
phase_most = 999999

-- §E4.1 the reading at a tick: (t × (1,000,000 + p) + q) / 1,000,000, rounded down
unfoldable pub reads : (drift phase tick : ℕ) → ℕ
reads p q t = (t * (million + p) + q) / million

-- §3.4 the first tick at which the clock reads v or more
unfoldable pub first_tick : (drift phase v : ℕ) → ℕ
first_tick p q v = up (v * million - q) (million + p)

-- §E4.1 what the code asks of a clock: what each clock of an accepted row has
pub record Admitted (k : Clock) : Type 0 where
  pub slow : k.drift ≤ 10000
  pub in_phase : k.phase ≤ phase_most
