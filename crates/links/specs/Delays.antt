-- The code's own: link values that are looked at together. Assumes nothing.
use Rattle.std.specs.Prelude.{◌≡◌, ℕ, ◌+◌, ◌<◌, ◌≤◌, false, List, slice_index}
use Rattle.settings.specs.Refusal.{outside}
use Rattle.settings.specs.declared.Settings.{Settings}
use Rattle.links.specs.Links.{NeverBad}

-- §7.4 the values of eight tiles, three a tile, are delays in their range
unfoldable pub Delays : (shortest longest : ℕ) → (links : List ℕ) → (from : ℕ) → Type 0
Delays low high ls from = (n : ℕ) → from ≤ n → n < from + 24 → outside low high (slice_index ls n) ≡ false

-- §7.4 no link value of eight tiles is bad, whoever is faulty
unfoldable pub EightNeverBad : Settings → (links : List ℕ) → (c : ℕ) → Type 0
EightNeverBad s ls c = (k : ℕ) → c ≤ k → k < c + 8 → NeverBad s ls k
