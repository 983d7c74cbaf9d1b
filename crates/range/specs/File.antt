-- The search range of a wall file as a whole: from any bytes to what is printed. Assumes nothing.
use Rattle.std.specs.Prelude.{cond, List, [], ◌∷◌, ◌++◌, ℕ, zero, suc, ◌+◌, eqb, ltb, length, drop, Option, Some, None, Result, Ok, Err}
use Rattle.settings.specs.Refusal.{number}
use Rattle.settings.specs.declared.Settings.{Settings}
use Rattle.settings.specs.declared.refusal.Refusal.{Refusal}
use Rattle.settings.specs.declared.refusal.Refusal.TheVariants.{GoesOn}
use Rattle.row.specs.Row.{row_of}
use Rattle.reach.specs.Survey.{surveyed_of}
use Rattle.reach.specs.declared.survey.Surveyed.{Surveyed}
use Rattle.lines.specs.Line.{refused_line, line_text}
use Rattle.fields.specs.Field.{body}
use Rattle.contents.specs.Contents.{settings_size, settings_in, start_size, times_in, row_size, marks_in, call_in}
use Rattle.steps.specs.Number.{settings_field_cause, start_cause, row_fields_cause, row_offset}
use Rattle.search_lines.specs.Text.{faulty_word, largest_text, gap_text}
use Rattle.telling.specs.Telling.{first_marked}

-- §15.4 row l's lines, and then what follows with the largest reach of the rows so far; every row of a wall file has them (`RowSurveyed`)
unfoldable pub with_lines : Settings → (asked : List ℕ) → (l : ℕ) → Result (Option Surveyed) Refusal → (rest : ℕ → List ℕ) → List ℕ
with_lines s asked l (Ok (Some x)) rest = gap_text s x.gap l asked ++ rest x.largest
with_lines s asked l (Ok None) rest = []
with_lines s asked l (Err why) rest = []

-- §15.4 the line of a refusal at an offset, or where there is none what follows
unfoldable pub or_told : (cause : Option Refusal) → (offset : ℕ) → (follows : List ℕ) → List ℕ
or_told None at follows = follows
or_told (Some why) at follows = refused_line (number why) at

-- §15.4 n rows after row l, whose times are given; m is the largest reach of the rows before it. Row l's lines come when row l + 1 is
-- accepted, since its marks come with it; a faulty tile ends the search; the largest comes when the file has ended rightly.
unfoldable pub rows_told : Settings → (asked : List ℕ) → (n l at m : ℕ) → (row rest : List ℕ) → List ℕ
rows_told s asked zero l at m ts bs = cond (eqb (length bs) 0) (largest_text m) (refused_line (number GoesOn) at)
rows_told s asked (suc n) l at m ts bs =
    let w = s.width in
    let c = first_marked w (marks_in w bs) in
    or_told (row_fields_cause s ts bs) (row_offset s at bs)
    (cond (ltb c w) (line_text faulty_word (l ∷ c ∷ []))
    (with_lines s asked l (surveyed_of s l m ts)
    (λ (k : ℕ). rows_told s asked n (suc l) (at + row_size w) k (row_of s ts (call_in w bs)) (drop (row_size w) bs))))

-- §15.4 what is printed of a file from tag 2 on
unfoldable pub start_told : Settings → (asked : List ℕ) → (at m : ℕ) → (rest : List ℕ) → List ℕ
start_told s asked at m bs =
    let size = start_size s.width in
    or_told (start_cause s bs) at
    (rows_told s asked s.rows 0 (at + (3 + size)) m (times_in s.width (body size bs)) (drop (3 + size) bs))

-- §15.4 what is printed of a file, with the largest reach before it
unfoldable pub file_told : (asked : List ℕ) → (m : ℕ) → (file : List ℕ) → List ℕ
file_told asked m bs =
    let size = settings_size in
    or_told (settings_field_cause bs) 0
    (start_told (settings_in (body size bs)) asked (3 + size) m (drop (3 + size) bs))

-- §15.4 what `wallreach` prints of a file, for the rows asked for
unfoldable pub search_text : (asked file : List ℕ) → List ℕ
search_text asked bs = file_told asked 0 bs
