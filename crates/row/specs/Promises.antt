-- What is promised of a row: its answer, its earliest and latest time, and both as the row is filled. Assumes nothing.
use Rattle.std.specs.Prelude.{◌≡◌, List, ℕ, ◌≤◌, ◌<◌, length, get_or, set, Some, Ok}
use Rattle.settings.specs.declared.Settings.{Settings}
use Rattle.settings.specs.Refusal.{number_in}
use Rattle.admission.specs.Call.{Call}
use Rattle.admission.specs.Refusal.{row_refusal}
use Rattle.rule.specs.Letter.{byte_of}
use Rattle.pulse.specs.Pulse.{pulse, letter_at}
use Rattle.row.specs.declared.progress.Progress.{Progress}
use Rattle.row.specs.Row.{Pulses, pulses, row_of, letters_of, least_of, most_of, ends_at, planned, written, lettered, earliest_of, latest_of}
use Rattle.row.specs.Progress.{none_done, with_time, SoFar}

-- §13.4 the answer has the call's number; rows that are turned away hold what they held, those that are accepted hold the pulses (§12.2) and
-- the letters (§E3.4)
unfoldable pub RowAnswered : Type 0
RowAnswered =
    (s : Settings) (ts : List ℕ) (x : Call) (held : Pulses) → (number_in (planned s ts x) ≡ row_refusal s ts x)
    × ((row_refusal s ts x ≡ 0 → ⊥) → (written s ts x held.times ≡ held.times) × (lettered s ts x held.letters ≡ held.letters))
    × (row_refusal s ts x ≡ 0 → (written s ts x held.times ≡ row_of s ts x) × (lettered s ts x held.letters ≡ letters_of s ts x))

-- §7.6 the time of some tile
pub record SomeTile (w : ℕ) (row : List ℕ) (time : ℕ) : Type 0 where
  pub column : ℕ
  pub in_row : column < w
  pub there : get_or row column 0 ≡ time

-- §7.6 every time of a row lies from the one to the other, and each is the time of some tile
pub record Ends (w : ℕ) (row : List ℕ) (earliest latest : ℕ) : Type 0 where
  pub from : (c : ℕ) → c < w → earliest ≤ get_or row c 0
  pub to : (c : ℕ) → c < w → get_or row c 0 ≤ latest
  pub first : SomeTile w row earliest
  pub last : SomeTile w row latest

-- §7.6 the answer of an accepted row has the earliest and latest time of the row that was written
unfoldable pub RowEnds : Type 0
RowEnds =
    (s : Settings) (ts : List ℕ) (x : Call) (held : List ℕ) → row_refusal s ts x ≡ 0 →
    let earliest = least_of (row_of s ts x) in
    let latest = most_of (row_of s ts x) in
    (earliest_of (planned s ts x) ≡ Some earliest) × (latest_of (planned s ts x) ≡ Some latest)
    × Ends s.width (written s ts x held) earliest latest

-- §E2.1 how a row is filled: before its first tile, with each tile more, what the running values are after any tile, and after the last
pub record Filling (s : Settings) (ts : List ℕ) (x : Call) (held : Pulses) : Type 0 where
  pub first : SoFar s ts x held held none_done
  pub tile : (row : Pulses) (done : Progress) → SoFar s ts x held row done → done.next < s.width →
      let c = done.next in
      let time = pulse s ts x c in
      SoFar s ts x held (pulses (set row.times c time) (set row.letters c (byte_of (letter_at s ts x c)))) (with_time done time)
  pub ends : (row : Pulses) (done : Progress) → SoFar s ts x held row done → 0 < done.next →
      Ends done.next row.times done.earliest done.latest
  pub last : (row : Pulses) (done : Progress) → SoFar s ts x held row done → done.next ≡ s.width →
      (row.times ≡ written s ts x held.times) × (row.letters ≡ lettered s ts x held.letters)
      × (Ok (ends_at done.earliest done.latest) ≡ planned s ts x)

-- §E2.2 every accepted row is filled so, and its caller is left with the row and the answer of §7.6
unfoldable pub RunningEnds : Type 0
RunningEnds =
    (s : Settings) (ts : List ℕ) (x : Call) (held : Pulses) → row_refusal s ts x ≡ 0 → length held.times ≡ s.width →
    length held.letters ≡ s.width → Filling s ts x held
