-- A wall file that keeps every limit, in numbers and inequalities alone, and the run that it describes. Assumes nothing.
use Rattle.std.specs.Prelude.{List, [], ◌∷◌, ◌++◌, ℕ, zero, suc, ◌+◌, ◌*◌, ◌/◌, ◌≤◌, ◌<◌, get_or, drop}
use Rattle.settings.specs.Limits.{Limits}
use Rattle.settings.specs.declared.Settings.{Settings}
use Rattle.admission.specs.Call.{Call}
use Rattle.admission.specs.Limits.{TileLimits}
use Rattle.row.specs.Row.{Pulses, pulses, letters_of}
use Rattle.runs.specs.Run.{rows}
use Rattle.fields.specs.Field.{body}
use Rattle.fields.specs.Limits.{FieldThere}
use Rattle.contents.specs.Contents.{settings_size, settings_in, start_size, times_in, row_size, call_in}
use Rattle.steps.specs.Shown.{Shown, row_shown, no_marks}

-- §9.2 the settings that a file describes
unfoldable pub settings_of : (file : List ℕ) → Settings
settings_of bs = settings_in (body settings_size bs)

-- §9.3 the file from tag 2 on
unfoldable pub after_settings : (file : List ℕ) → List ℕ
after_settings bs = drop (3 + settings_size) bs

-- §9.3 the times of row 0 that it describes
unfoldable pub start_of : (file : List ℕ) → List ℕ
start_of bs =
    let w = (settings_of bs).width in
    times_in w (body (start_size w) (after_settings bs))

-- §9.4 the file from the first tag 3 on
unfoldable pub after_start : (file : List ℕ) → List ℕ
after_start bs = drop (3 + start_size (settings_of bs).width) (after_settings bs)

-- §11.8 the row calls of n rows, in the file from a tag 3 on
unfoldable pub calls_in : (w n : ℕ) → (rest : List ℕ) → List Call
calls_in w zero bs = []
calls_in w (suc n) bs = call_in w bs ∷ calls_in w n (drop (row_size w) bs)

-- §11.8 all row calls that a file describes
unfoldable pub calls_of : (file : List ℕ) → List Call
calls_of bs = calls_in (settings_of bs).width (settings_of bs).rows (after_start bs)

-- §11.8 the rows of a file: those of the run of its calls
unfoldable pub rows_of : (file : List ℕ) → List (List ℕ)
rows_of bs = rows (settings_of bs) (calls_of bs) (start_of bs)

-- §12.1 the limits of a row: both of its fields are there, and what they hold is within its limits
pub record RowKeeps (s : Settings) (rest : List ℕ) : Type 0 where
  pub marks_there : FieldThere 3 ((s.width + 7) / 8) rest
  pub tiles_there : FieldThere 4 (30 * s.width + 16) (drop (3 + (s.width + 7) / 8) rest)
  pub within : TileLimits s (call_in s.width rest).marks (call_in s.width rest).drifts (call_in s.width rest).phases (call_in s.width rest).links

-- §12.1 the limits of n rows, with nothing after the last
pub data RowsKeep (s : Settings) : (n : ℕ) → (rest : List ℕ) → Type 0 where
  over : RowsKeep s 0 []
  and_then : {n : ℕ} {rest : List ℕ} → RowKeeps s rest → RowsKeep s n (drop (row_size s.width) rest) → RowsKeep s (suc n) rest

-- §12.1 a wall within all limits: its settings, row 0 and R rows are there and within theirs
pub record Keeps (file : List ℕ) : Type 0 where
  pub settings_there : FieldThere 1 24 file
  pub settings_within : Limits (settings_of file)
  pub start_there : FieldThere 2 (8 * (settings_of file).width) (after_settings file)
  pub start_early : (c : ℕ) → c < (settings_of file).width → get_or (start_of file) c 0 ≤ 549755813887
  pub rows_keep : RowsKeep (settings_of file) (settings_of file).rows (after_start file)

-- §10.1 the rows of a run, from row l on, each shown with its letters and the marks that come with the next, the last without marks
unfoldable pub run_shown : Settings → (l : ℕ) → (calls : List Call) → (row : Pulses) → (rest : List (List ℕ)) → List Shown
run_shown s l [] r rs = row_shown s l (no_marks s.width) r
run_shown s l (x ∷ xs) r [] = []
run_shown s l (x ∷ xs) r (ts ∷ rs) = row_shown s l x.marks r ++ run_shown s (suc l) xs (pulses ts (letters_of s r.times x)) rs
