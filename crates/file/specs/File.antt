-- The wall file as a whole: from any bytes to what is printed and how it ends. Assumes nothing.
use Rattle.std.specs.Prelude.{cond, List, [], ◌∷◌, ◌++◌, ℕ, zero, suc, ◌+◌, eqb, length, drop, Option, Some, None}
use Rattle.settings.specs.declared.Settings.{Settings}
use Rattle.settings.specs.declared.refusal.Refusal.{Refusal}
use Rattle.settings.specs.declared.refusal.Refusal.TheVariants.{GoesOn}
use Rattle.row.specs.Row.{Pulses, pulses, next_pulses}
use Rattle.fields.specs.Field.{body}
use Rattle.contents.specs.Contents.{settings_size, settings_in, start_size, times_in, row_size, marks_in, call_in}
use Rattle.steps.specs.Shown.{Shown, turned_away, row_shown, no_marks}
use Rattle.show.specs.Text.{texts_of}
use Rattle.steps.specs.Number.{settings_field_cause, start_cause, row_fields_cause, row_offset}

-- §9.8 a refusal at an offset, or where there is none what follows
unfoldable pub or_shown : (cause : Option Refusal) → (offset : ℕ) → (follows : List Shown) → List Shown
or_shown None at xs = xs
or_shown (Some why) at xs = turned_away why at ∷ []

-- §10.1 what is shown of n rows after row l, which is given: row l once the next is accepted or the file has ended as it should, and then
-- the rest; or the refusal
unfoldable pub rows_shown : Settings → (n l at : ℕ) → (row : Pulses) → (rest : List ℕ) → List Shown
rows_shown s zero l at r bs = cond (eqb (length bs) 0) (row_shown s l (no_marks s.width) r) (turned_away GoesOn at ∷ [])
rows_shown s (suc n) l at r bs =
    let w = s.width in
    let ts = r.times in
    or_shown (row_fields_cause s ts bs) (row_offset s at bs)
    (row_shown s l (marks_in w bs) r ++ rows_shown s n (suc l) (at + row_size w) (next_pulses s ts (call_in w bs)) (drop (row_size w) bs))

-- §9.3 what is shown of a file from tag 2 on; row 0 has no letters
unfoldable pub start_shown : Settings → (at : ℕ) → (rest : List ℕ) → List Shown
start_shown s at bs =
    let size = start_size s.width in
    or_shown (start_cause s bs) at
    (rows_shown s s.rows 0 (at + (3 + size)) (pulses (times_in s.width (body size bs)) []) (drop (3 + size) bs))

-- §9.7 what is shown of a file: it is judged from tag 1 on, and a refusal ends it
unfoldable pub shown : (file : List ℕ) → List Shown
shown bs =
    let size = settings_size in
    or_shown (settings_field_cause bs) 0 (start_shown (settings_in (body size bs)) (3 + size) (drop (3 + size) bs))

-- §16.4 what `wallrun` prints of a file
unfoldable pub wall_text : (file : List ℕ) → List ℕ
wall_text bs = texts_of (shown bs)
