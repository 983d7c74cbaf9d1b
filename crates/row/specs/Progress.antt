-- A row as it is filled so far, tile by tile. Assumes nothing.
use Rattle.std.specs.Prelude.{◌≡◌, List, ℕ, ◌+◌, min, max, take}
use Rattle.settings.specs.declared.Settings.{Settings}
use Rattle.rule.specs.Stamp.{silence}
use Rattle.columns.specs.Wrote.{Wrote}
use Rattle.admission.specs.Call.{Call}
use Rattle.row.specs.declared.progress.Progress.{Progress}
use Rattle.row.specs.Row.{Pulses, row_of, letters_of, least_of, most_of}

-- §E2.1 before the first tile
abbrev pub none_done : Progress
none_done = record { next = 0; earliest = silence; latest = 0 }

-- §E2.1 with the time of the next tile
abbrev pub with_time : Progress → (time : ℕ) → Progress
with_time done t = record { next = done.next + 1; earliest = min done.earliest t; latest = max done.latest t }

-- §E2.1 the tiles before the next one are written with their pulses and letters (§E3.4), and the two running values are the least and the
-- largest of those times
pub record SoFar (s : Settings) (before : List ℕ) (x : Call) (held row : Pulses) (done : Progress) : Type 0 where
  pub pulses : Wrote held.times 0 (take done.next (row_of s before x)) row.times done.next
  pub letters : Wrote held.letters 0 (take done.next (letters_of s before x)) row.letters done.next
  pub is_least : done.earliest ≡ least_of (take done.next row.times)
  pub is_largest : done.latest ≡ most_of (take done.next row.times)
