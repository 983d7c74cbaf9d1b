-- When a link value is out of range: number 26. Assumes nothing.
use Rattle.std.specs.Prelude.{◌≡◌, ℕ, ◌-◌, Bool, false, cond, not, ◌&&◌, List, ◌==◌, nat_lt}
use Rattle.settings.specs.Refusal.{outside}
use Rattle.rule.specs.Stamp.{silence}
use Rattle.settings.specs.declared.Settings.{Settings}
use Rattle.columns.specs.Columns.{predecessors, link, any_of}
use Rattle.columns.specs.Marks.{marked}

-- §7.4 2^40 - 1: the latest time of a correct tile, and the latest faulty arrival
abbrev pub latest_time : ℕ
latest_time = 1099511627775

-- §7.4 26 of a value: from a correct sender no delay from d - u to d, from a faulty one over 2^40 - 1 and not silence
unfoldable pub bad_value : Settings → (faulty : Bool) → (value : ℕ) → Bool
bad_value s f v = cond f (not (v == silence) && nat_lt latest_time v) (outside (s.delay - s.uncertainty) s.delay v)

-- §7.4 26 of the link from a sender to a tile
unfoldable pub bad_link : Settings → (marks links : List ℕ) → (tile sender : ℕ) → Bool
bad_link s ms ls c k = bad_value s (marked ms k) (link s.width ls c k)

-- §7.4 26 of a tile: one of its links is bad
unfoldable pub bad_links : Settings → (marks links : List ℕ) → (tile : ℕ) → Bool
bad_links s ms ls c = any_of (predecessors s.width c) (bad_link s ms ls c)

-- §7.4 the code's own: no link value of the tile is bad, whoever is faulty
unfoldable pub NeverBad : Settings → (links : List ℕ) → (c : ℕ) → Type 0
NeverBad s ls c = (ms : List ℕ) → bad_links s ms ls c ≡ false
