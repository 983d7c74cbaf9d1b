-- The pulse of a tile and its letter, from its own stamp and its neighbours'. Assumes nothing.
use Rattle.std.specs.Prelude.{List, ℕ, ◌+◌}
use Rattle.settings.specs.Settings.{step_of}
use Rattle.rule.specs.Clock.{first_tick}
use Rattle.rule.specs.Signed.{natural}
use Rattle.rule.specs.Stamp.{Stamp, earliest, latest}
use Rattle.rule.specs.Forward.{P}
use Rattle.rule.specs.Letter.{letter}
use Rattle.rule.specs.declared.letter.Letter.{Letter}
use Rattle.settings.specs.declared.Settings.{Settings}

-- §4.3 P of a tile's own stamp and its neighbours', as a reading: it is never below zero (`PExact`)
unfoldable pub tile_P : Settings → (own : Stamp) → (neighbours : List Stamp) → ℕ
tile_P s own ns = natural (P s.unit (step_of s) own (earliest ns) (latest ns))

-- §3.4 the tile's pulse: the first tick that reads P + A or more
unfoldable pub tile_pulse : Settings → (drift phase : ℕ) → (own : Stamp) → (neighbours : List Stamp) → ℕ
tile_pulse s p q own ns = first_tick p q (tile_P s own ns + s.hold)

-- §E3.1 the letter of what fixed it
unfoldable pub tile_letter : Settings → (own : Stamp) → (neighbours : List Stamp) → Letter
tile_letter s own ns = letter s.unit (step_of s) own (earliest ns) (latest ns)
