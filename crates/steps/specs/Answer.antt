-- What the answer of a step means, and what it is in each case. Assumes nothing.
use Rattle.std.specs.Prelude.{cond, List, [], ℕ, suc, ◌+◌, eqb, length, Option, Some, None, Result, Ok, Err}
use Rattle.std.proofs.Math.Option as known
use Rattle.settings.specs.Refusal.{number, refused}
use Rattle.settings.specs.declared.refusal.Refusal.{Refusal}
use Rattle.settings.specs.declared.refusal.Refusal.TheVariants.{GoesOn}
use Rattle.row.specs.Row.{Pulses, pulses, next_pulses}
use Rattle.fields.specs.Field.{body}
use Rattle.contents.specs.Contents.{settings_size, settings_in, start_size, times_in, row_size, marks_in, call_in}
use Rattle.stages.specs.Fit.{place}
use Rattle.stages.specs.declared.Wall.{Wall}
use Rattle.stages.specs.declared.Wall.TheVariants.{New, Start, Row, End, Over}
use Rattle.steps.specs.Number.{settings_field_cause, start_cause, row_fields_cause, row_offset}
use Rattle.steps.specs.Shown.{Shown, row_shown, no_marks}
use Rattle.steps.specs.Step.{after_row}
use Rattle.steps.specs.declared.RefusedAt.{RefusedAt}

-- §13.3 the number that each case of the answer stands for, 0 where the part is accepted; what does not fit has none
unfoldable pub number_of : Option (Result Wall RefusedAt) → known.Option ℕ
number_of (Some (Ok x)) = known.some 0
number_of (Some (Err r)) = known.some (number r.refusal)
number_of None = known.none

-- §13.3 the offset that comes with a refusal
unfoldable pub offset_of : Option (Result Wall RefusedAt) → known.Option ℕ
offset_of (Some (Ok x)) = known.none
offset_of (Some (Err r)) = known.some r.offset
offset_of None = known.none

-- §13.3 the wall afterwards: a refusal ends the file
unfoldable pub wall_of : Option (Result Wall RefusedAt) → known.Option Wall
wall_of (Some (Ok x)) = known.some x
wall_of (Some (Err r)) = known.some Over
wall_of None = known.none

-- §9.7 why the part that is due is turned away
unfoldable pub cause_due : Wall → (row part : List ℕ) → Option Refusal
cause_due New ts bs = settings_field_cause bs
cause_due (Start p) ts bs = start_cause p.settings bs
cause_due (Row p) ts bs = row_fields_cause p.settings ts bs
cause_due (End p) ts bs = cond (eqb (length bs) 0) None (Some GoesOn)
cause_due Over ts bs = None

-- §9.7 the number of the part that is due, 0 where it is accepted
unfoldable pub number_due : Wall → (row part : List ℕ) → ℕ
number_due x ts bs = refused (cause_due x ts bs)

-- §9.8 where a part is turned away: at the field that is due, at tag 4 for what a row's fields hold, at the first byte too many for 44
unfoldable pub offset_due : Wall → (part : List ℕ) → ℕ
offset_due New bs = 0
offset_due (Start p) bs = p.offset
offset_due (Row p) bs = row_offset p.settings p.offset bs
offset_due (End p) bs = p.offset
offset_due Over bs = 0

-- §17.3 what is due once a part is accepted
unfoldable pub wall_then : Wall → (part : List ℕ) → Wall
wall_then New bs = Start (place (settings_in (body settings_size bs)) 0 (3 + settings_size))
wall_then (Start p) bs = Row (place p.settings 0 (p.offset + (3 + start_size p.settings.width)))
wall_then (Row p) bs = after_row p.settings (suc p.row) (p.offset + row_size p.settings.width)
wall_then (End p) bs = Over
wall_then Over bs = Over

-- §17.3 the row that is then written, row 0 or the next; row 0 has no letters
unfoldable pub row_then : Wall → (row part : List ℕ) → (held : Pulses) → Pulses
row_then New ts bs held = held
row_then (Start p) ts bs held = pulses (times_in p.settings.width (body (start_size p.settings.width) bs)) held.letters
row_then (Row p) ts bs held = next_pulses p.settings ts (call_in p.settings.width bs)
row_then (End p) ts bs held = held
row_then Over ts bs held = held

-- §10.1 what is then shown: the last row, since the next is accepted or the file has ended as it should
unfoldable pub shown_then : Wall → (row : Pulses) → (part : List ℕ) → List Shown
shown_then New r bs = []
shown_then (Start p) r bs = []
shown_then (Row p) r bs = row_shown p.settings p.row (marks_in p.settings.width bs) r
shown_then (End p) r bs = row_shown p.settings p.row (no_marks p.settings.width) r
shown_then Over r bs = []
