-- The row that two fields describe, worked out. Assumes nothing.
use Rattle.std.specs.Prelude.{◌≡◌, cond, List, ℕ, eqb, drop, Result}
use Rattle.settings.specs.Settings.{settings_refusal}
use Rattle.settings.specs.declared.Settings.{Settings}
use Rattle.settings.specs.declared.refusal.Refusal.{Refusal}
use Rattle.settings.specs.Refusal.{or_else, answer, number_in}
use Rattle.row.specs.Row.{Pulses, next_pulses}
use Rattle.columns.specs.Marks.{mark_bytes}
use Rattle.admission.specs.Refusal.{row_cause}
use Rattle.fields.specs.Field.{field_cause, field_refusal}
use Rattle.contents.specs.Contents.{marks_field, tiles_size, call_in}

-- §7.1 a row can be worked out: its settings pass, its marks are there, and the rows are W long
pub record Plannable (s : Settings) (part : List ℕ) (before times letters : ℕ) : Type 0 where
  pub pass : settings_refusal s ≡ 0
  pub marks_there : field_refusal 3 (mark_bytes s.width) part ≡ 0
  pub before_long : before ≡ s.width
  pub times_long : times ≡ s.width
  pub letters_long : letters ≡ s.width

-- §9.7 the refusal of tag 4's field or of the row call; and the row where there is none, otherwise what was held
pub record WorkedOut (s : Settings) (part before : List ℕ) (held : Pulses) (result : Result Unit Refusal) (row : Pulses) : Type 0 where
  pub answered :
      result
      ≡ answer (or_else (field_cause 4 (tiles_size s.width) (drop (marks_field s.width) part)) (row_cause s before (call_in s.width part))) tt
  pub wrote : row ≡ cond (eqb (number_in result) 0) (next_pulses s before (call_in s.width part)) held
