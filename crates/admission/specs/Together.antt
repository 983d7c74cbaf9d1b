-- The code's own: what it finds of all times together. Assumes nothing.
use Rattle.std.specs.Prelude.{List, ℕ, ◌≤◌, ◌<◌, length, get_or}

-- §7.4 no number of the list is over most
unfoldable pub AllBy : (most : ℕ) → List ℕ → Type 0
AllBy most ts = (c : ℕ) → c < length ts → get_or ts c 0 ≤ most
