-- What arrives at a tile, how it is stamped, the tile's pulse and its letter. Assumes nothing.
use Rattle.std.specs.Prelude.{Bool, cond, List, map, ℕ, ◌+◌, get_or}
use Rattle.rule.specs.Clock.{reads}
use Rattle.rule.specs.Stamp.{Stamp, heard, silent, stamp_of}
use Rattle.rule.specs.Pulse.{tile_pulse, tile_letter}
use Rattle.rule.specs.declared.clock.Clock.{Clock}
use Rattle.rule.specs.declared.letter.Letter.{Letter}
use Rattle.settings.specs.declared.Settings.{Settings}
use Rattle.columns.specs.Columns.{neighbours, link}
use Rattle.admission.specs.Call.{Call}
use Rattle.columns.specs.Marks.{marked}
use Rattle.pulse.specs.declared.Pulsed.{Pulsed}

-- §3.2 the arrival that a link value tells: the sender's time plus the delay, or from a faulty sender the value itself
unfoldable pub arrives : (faulty : Bool) → (time value : ℕ) → Stamp
arrives f t v = cond f (stamp_of v) (heard (t + v))

-- §3.2 when the pulse of a sender arrives at a tile
unfoldable pub arrival : (w : ℕ) → (before : List ℕ) → Call → (tile sender : ℕ) → Stamp
arrival w ts x c k = arrives (marked x.marks k) (get_or ts k 0) (link w x.links c k)

-- §3.3 an arrival as the receiver's clock reads it
unfoldable pub read_at : (drift phase : ℕ) → Stamp → Stamp
read_at p q (heard a) = heard (reads p q a)
read_at p q silent = silent

-- §E4.1 the clock of a tile, by the drifts and phases of its row
abbrev pub clock_of : (drifts phases : List ℕ) → (tile : ℕ) → Clock
clock_of ds qs c = record { drift = get_or ds c 0; phase = get_or qs c 0 }

-- §3.3 the stamp that a tile has of a sender
unfoldable pub stamp : (w : ℕ) → (before : List ℕ) → Call → (tile sender : ℕ) → Stamp
stamp w ts x c k = read_at (get_or x.drifts c 0) (get_or x.phases c 0) (arrival w ts x c k)

-- §7.6 a tile's pulse, by its stamps of own and of the neighbours
unfoldable pub pulse : Settings → (before : List ℕ) → Call → (tile : ℕ) → ℕ
pulse s ts x c =
    let w = s.width in
    tile_pulse s (get_or x.drifts c 0) (get_or x.phases c 0) (stamp w ts x c c) (map (stamp w ts x c) (neighbours w c))

-- §E3.4 the letter of a tile, by the same stamps
unfoldable pub letter_at : Settings → (before : List ℕ) → Call → (tile : ℕ) → Letter
letter_at s ts x c =
    let w = s.width in
    tile_letter s (stamp w ts x c c) (map (stamp w ts x c) (neighbours w c))

-- §E3.4 both together
abbrev pub pulsed_at : Settings → (before : List ℕ) → Call → (tile : ℕ) → Pulsed
pulsed_at s ts x c = record { time = pulse s ts x c; letter = letter_at s ts x c }
