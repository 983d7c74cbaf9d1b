-- The rows that a call writes, its times and its letters, and its answer. Assumes nothing.
use Rattle.std.specs.Prelude.{List, [], ◌∷◌, cond, ℕ, min, max, eqb, take, Option, Some, None, Result, Ok, Err}
use Rattle.settings.specs.declared.Settings.{Settings}
use Rattle.settings.specs.declared.refusal.Refusal.{Refusal}
use Rattle.settings.specs.Refusal.{answer}
use Rattle.rule.specs.Stamp.{silence}
use Rattle.admission.specs.Call.{Call}
use Rattle.row.specs.declared.Ends.{Ends}
use Rattle.rule.specs.Letter.{byte_of}
use Rattle.pulse.specs.Pulse.{pulse, letter_at}
use Rattle.columns.specs.Columns.{table_from}
use Rattle.admission.specs.Refusal.{row_cause, row_refusal}

-- §E3.4 a row: its times, and its letters
pub record Pulses : Type 0 where
  pub times : List ℕ
  pub letters : List ℕ

-- §E3.4 the record of both
abbrev pub pulses : (times letters : List ℕ) → Pulses
pulses ts ls = record { times = ts; letters = ls }

-- §16.4 the first n tiles, of a row that stands in longer buffers
abbrev pub cut : (n : ℕ) → Pulses → Pulses
cut n r = pulses (take n r.times) (take n r.letters)

-- §7.6 the pulses of all W tiles
unfoldable pub row_of : Settings → (before : List ℕ) → Call → List ℕ
row_of s ts x = table_from s.width 0 (pulse s ts x)

-- §E3.4 the letters of all W tiles
unfoldable pub letters_of : Settings → (before : List ℕ) → Call → List ℕ
letters_of s ts x = table_from s.width 0 (λ c. byte_of (letter_at s ts x c))

-- §E3.4 the row that follows: its times, and its letters
abbrev pub next_pulses : Settings → (before : List ℕ) → Call → Pulses
next_pulses s ts x = pulses (row_of s ts x) (letters_of s ts x)

-- §7.6 the earliest of some times
unfoldable pub least_of : List ℕ → ℕ
least_of [] = silence
least_of (t ∷ ts) = min t (least_of ts)

-- §7.6 the latest of some times
unfoldable pub most_of : List ℕ → ℕ
most_of [] = 0
most_of (t ∷ ts) = max t (most_of ts)

-- §7.6 the record of a row's ends
abbrev pub ends_at : (earliest latest : ℕ) → Ends
ends_at earliest latest = record { earliest = earliest; latest = latest }

-- §7.6 a call's answer: the earliest and the latest pulse, or why it is turned away
unfoldable pub planned : Settings → (before : List ℕ) → Call → Result Ends Refusal
planned s ts x = answer (row_cause s ts x) (ends_at (least_of (row_of s ts x)) (most_of (row_of s ts x)))

-- §13.2 the row to write, after the call: the pulses, or what it held where the call is turned away
unfoldable pub written : Settings → (before : List ℕ) → Call → (held : List ℕ) → List ℕ
written s ts x held = cond (eqb (row_refusal s ts x) 0) (row_of s ts x) held

-- §E3.4 the row of letters, after the call
unfoldable pub lettered : Settings → (before : List ℕ) → Call → (held : List ℕ) → List ℕ
lettered s ts x held = cond (eqb (row_refusal s ts x) 0) (letters_of s ts x) held

-- §13.3 the earliest time of an answer, where it has one
unfoldable pub earliest_of : Result Ends Refusal → Option ℕ
earliest_of (Ok e) = Some e.earliest
earliest_of (Err why) = None

-- §13.3 the latest time of an answer, where it has one
unfoldable pub latest_of : Result Ends Refusal → Option ℕ
latest_of (Ok e) = Some e.latest
latest_of (Err why) = None
