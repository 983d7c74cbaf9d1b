-- Quotients rounded up. Assumes nothing.
use Rattle.std.specs.Prelude.{ℕ, ◌+◌, ◌-◌, ◌/◌}

-- §2.2 a / b, rounded up
unfoldable pub up : (a b : ℕ) → ℕ
up a b = (a + b - 1) / b
