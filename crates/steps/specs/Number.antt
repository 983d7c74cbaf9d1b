-- The refusal of each part of a wall file, and its number. Assumes nothing.
use Rattle.std.specs.Prelude.{cond, List, ℕ, ◌+◌, eqb, drop, Option, Some, None}
use Rattle.settings.specs.Settings.{settings_cause}
use Rattle.settings.specs.declared.Settings.{Settings}
use Rattle.settings.specs.declared.refusal.Refusal.{Refusal}
use Rattle.settings.specs.declared.refusal.Refusal.TheVariants.{LateStart}
use Rattle.settings.specs.Refusal.{or_else, refused, any_below}
use Rattle.columns.specs.Marks.{mark_bytes}
use Rattle.admission.specs.Refusal.{row_cause}
use Rattle.fields.specs.Field.{field_cause, field_refusal, body}
use Rattle.contents.specs.Contents.{settings_size, settings_in, start_size, times_in, late_start, tiles_size, marks_field, call_in}

-- §9.7 why tag 1 or its settings are turned away
unfoldable pub settings_field_cause : (rest : List ℕ) → Option Refusal
settings_field_cause bs = or_else (field_cause 1 settings_size bs) (settings_cause (settings_in (body settings_size bs)))

-- §9.7 why tag 2 or its times are
unfoldable pub start_cause : Settings → (rest : List ℕ) → Option Refusal
start_cause s bs =
    let w = s.width in
    or_else (field_cause 2 (start_size w) bs)
    (cond (any_below w (late_start (times_in w (body (start_size w) bs)))) (Some LateStart) None)

-- §9.7 why a row is: tag 3's field, tag 4's field, then what both hold
unfoldable pub row_fields_cause : Settings → (row rest : List ℕ) → Option Refusal
row_fields_cause s ts bs =
    let w = s.width in
    or_else (field_cause 3 (mark_bytes w) bs)
    (or_else (field_cause 4 (tiles_size w) (drop (marks_field w) bs)) (row_cause s ts (call_in w bs)))

-- §9.7 the number of tag 1 and its settings, 0 where they are accepted
unfoldable pub settings_number : (rest : List ℕ) → ℕ
settings_number bs = refused (settings_field_cause bs)

-- §9.7 the number of tag 2 and its times
unfoldable pub start_number : Settings → (rest : List ℕ) → ℕ
start_number s bs = refused (start_cause s bs)

-- §9.7 the number of a row
unfoldable pub row_number : Settings → (row rest : List ℕ) → ℕ
row_number s ts bs = refused (row_fields_cause s ts bs)

-- §9.8 where a row is turned away: at tag 3 while its field is not there, otherwise at tag 4
unfoldable pub row_offset : Settings → (at : ℕ) → (rest : List ℕ) → ℕ
row_offset s at bs = cond (eqb (field_refusal 3 (mark_bytes s.width) bs) 0) (at + marks_field s.width) at
