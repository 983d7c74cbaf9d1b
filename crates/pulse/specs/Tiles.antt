-- The tiles of an accepted row, as the tile operation takes them: none is turned away. Assumes nothing.
use Rattle.std.specs.Prelude.{◌≡◌, Bool, true, false, List, [], ◌∷◌, map, ℕ, ◌+◌, ◌<◌, ℤ, pos, length, get_or, Some}
use Rattle.rule.specs.Clock.{first_tick}
use Rattle.rule.specs.Stamp.{Stamp, heard, silent}
use Rattle.tile.specs.Tile.{own_stamp, neighbour_stamps, tile_refusal, forwarded, letter_of}
use Rattle.rule.specs.Pulse.{tile_P}
use Rattle.settings.specs.declared.Settings.{Settings}
use Rattle.tile.specs.declared.Stamps.{Stamps}
use Rattle.columns.specs.Columns.{neighbours}
use Rattle.admission.specs.Call.{Call}
use Rattle.pulse.specs.Pulse.{stamp, pulse, letter_at}
use Rattle.admission.specs.Refusal.{row_refusal}

-- §6.1 a stamp's reading, as its place holds it
unfoldable pub reading_of : Stamp → ℤ
reading_of (heard a) = pos a
reading_of silent = pos 0

-- §6.1 a stamp's silence mark
unfoldable pub silence_of : Stamp → Bool
silence_of (heard a) = false
silence_of silent = true

-- §6.1 own's stamp and up to three neighbours'
unfoldable pub stamps_of : (own : Stamp) → (neighbours : List Stamp) → Stamps
stamps_of own ns =
    let a = get_or ns 0 silent in
    let b = get_or ns 1 silent in
    let c = get_or ns 2 silent in
    record {
      at = reading_of own ∷ reading_of a ∷ reading_of b ∷ reading_of c ∷ [];
      silent = silence_of own ∷ silence_of a ∷ silence_of b ∷ silence_of c ∷ [];
      count = length ns;
    }

-- §6.1 those of a tile of the row
unfoldable pub tile_stamps : Settings → (before : List ℕ) → Call → (tile : ℕ) → Stamps
tile_stamps s ts x c = stamps_of (stamp s.width ts x c c) (map (stamp s.width ts x c) (neighbours s.width c))

-- §7.6 in an accepted row no tile is 11, 12 or 13, and the row's pulse is the tile's; §E3.4 so is its letter
unfoldable pub TilesAccepted : Type 0
TilesAccepted =
    (s : Settings) (ts : List ℕ) (x : Call) (c : ℕ) → row_refusal s ts x ≡ 0 → c < s.width →
    let st = tile_stamps s ts x c in
    (tile_refusal s st ≡ 0) × (pulse s ts x c ≡ first_tick (get_or x.drifts c 0) (get_or x.phases c 0) (tile_P s (own_stamp st) (neighbour_stamps st) + s.hold))
    × (letter_of (forwarded s st) ≡ Some (letter_at s ts x c))
