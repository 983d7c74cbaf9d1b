-- When what is heard makes a tile pulse. Assumes nothing.
use Rattle.std.specs.Prelude.{Bool, cond, ◌&&◌, List, ℕ, ◌+◌, leb, Option, Some, None}
use Rattle.settings.specs.declared.Settings.{Settings}
use Rattle.rule.specs.Stamp.{Stamp, unheard_of, unheard_in}
use Rattle.rule.specs.Pulse.{tile_P}
use Rattle.senders.specs.Senders.{own_stamp, neighbour_stamps, unheard}
use Rattle.senders.specs.declared.Senders.{Senders}

-- §E5.3 the reading at which stamps make a tile pulse: P + A, P by the rule
unfoldable pub due : Settings → (own : Stamp) → (neighbours : List Stamp) → ℕ
due s own ns = tile_P s own ns + s.hold

-- §E5.3 there is a P: at most one sender is unheard
unfoldable pub has_P : (unheard : ℕ) → Bool
has_P k = leb k 1

-- §E5.3 there is a P, and a reading has come to P + A
unfoldable pub reaches : Settings → (own : Stamp) → (neighbours : List Stamp) → (reading : ℕ) → Bool
reaches s own ns v = has_P (unheard_of own + unheard_in ns) && leb (due s own ns) v

-- §E5.5 that reading as the code has it, for what is heard so far; none while there is no P
unfoldable pub due_code : Settings → Senders → Option ℕ
due_code s x = cond (has_P (unheard x)) (Some (due s (own_stamp x) (neighbour_stamps x))) None
