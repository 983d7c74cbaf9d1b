-- The operation that takes a step: what it answers, and the rows that it writes, of times and of letters. Assumes nothing.
use Rattle.std.specs.Prelude.{◌≡◌, Bool, cond, ◌&&◌, List, [], ◌∷◌, ℕ, eqb, length, Option, Some, None, Result, Ok, Err}
use Rattle.settings.specs.declared.refusal.Refusal.{Refusal}
use Rattle.row.specs.Row.{Pulses, pulses}
use Rattle.steps.specs.Step.{Stepped, step_of}
use Rattle.steps.specs.Shown.{Shown, lines, turned_away, number_shown}
use Rattle.stages.specs.Fit.{wall_fits}
use Rattle.stages.specs.declared.Wall.{Wall}
use Rattle.stages.specs.declared.Wall.TheVariants.{New, Start, Row, End, Over}
use Rattle.steps.specs.declared.RefusedAt.{RefusedAt}

-- §13.3 a refusal with its offset
unfoldable pub refused_at : Refusal → (offset : ℕ) → RefusedAt
refused_at why at = record { refusal = why; offset = at }

-- §13.3 the wall of a step, or the refusal that is shown, which ends the file
unfoldable pub taken : Wall → List Shown → Result Wall RefusedAt
taken x [] = Ok x
taken x (lines w l ms r ∷ xs) = taken x xs
taken x (turned_away why at ∷ xs) = Err (refused_at why at)

-- §13.3 the same of a step
unfoldable pub taken_of : Stepped → Result Wall RefusedAt
taken_of o = taken o.next o.shows

-- §13.2 a lent row after a step that writes it: where the part is turned away it is as it was
unfoldable pub row_left : Stepped → (held : Pulses) → Pulses
row_left o held = cond (eqb (number_shown o.shows) 0) o.row held

-- §17.3 the step from a row's times, with the letters that are lent for writing: the last row's letters are not read
unfoldable pub step_from : Wall → (row part : List ℕ) → (held : Pulses) → Stepped
step_from x ts bs held = step_of x (pulses ts held.letters) bs

-- §17.3 the row that is lent for writing, after a step: row 0 and each later row are written
unfoldable pub next_row : Wall → (row part : List ℕ) → (held : Pulses) → Pulses
next_row New ts bs held = held
next_row (Start p) ts bs held = row_left (step_from (Start p) ts bs held) held
next_row (Row p) ts bs held = row_left (step_from (Row p) ts bs held) held
next_row (End p) ts bs held = held
next_row Over ts bs held = held

-- §17.3 whether all rows fit the wall: the last one's times, and the times and letters to write
unfoldable pub all_fit : Wall → (row : ℕ) → (held : Pulses) → Bool
all_fit x n held = wall_fits x n && (wall_fits x (length held.times) && wall_fits x (length held.letters))

-- §13.4 the answer, where these rows are lent to be written: a step of the definition where all rows fit
unfoldable pub answer_of : Wall → (part row : List ℕ) → (held : Pulses) → Option (Result Wall RefusedAt)
answer_of x bs ts held = cond (all_fit x (length ts) held) (Some (taken_of (step_from x ts bs held))) None

-- §13.4 those rows afterwards
unfoldable pub row_after : Wall → (part row : List ℕ) → (held : Pulses) → Pulses
row_after x bs ts held = cond (all_fit x (length ts) held) (next_row x ts bs held) held

-- §13.4 what the operation answers and writes
pub record Takes (x : Wall) (part row : List ℕ) (held : Pulses) (answer : Option (Result Wall RefusedAt)) (next : Pulses) : Type 0 where
  pub answered : answer ≡ answer_of x part row held
  pub written : next ≡ row_after x part row held

-- §13.4 a step that is taken of rows that fit: its answer, and the rows lent to be written afterwards
pub record StepTaken (x : Wall) (part row : List ℕ) (held : Pulses) (t : Result Wall RefusedAt) (next : Pulses) : Type 0 where
  pub is : t ≡ taken_of (step_from x row part held)
  pub written : next ≡ next_row x row part held
