-- Calls of the operation `step` itself, known by its contract alone. Assumes nothing.
use Rattle.std.specs.Prelude.{◌≡◌, true, List, [], ◌++◌, ℕ, length, take, drop, Option}
use Rattle.std.proofs.Math.Option.{some}
use Rattle.row.specs.Row.{Pulses}
use Rattle.file.specs.File.{wall_text}
use Rattle.steps.specs.Step.{step_of}
use Rattle.stages.specs.Fit.{due_of, wall_fits}
use Rattle.wall.specs.Operation.{wall_of, end_of, Stepping}
use Rattle.stages.specs.declared.Wall.{Wall}
use Rattle.stages.specs.declared.Wall.TheVariants.{New, Start, Over}
use Rattle.stages.specs.declared.Place.{Place}
use Rattle.wall.specs.declared.Went.{Went}

-- §17.3 calls over a file until it is over: each is given as many bytes as are due, fewer only where the file ends, the row that the last one
-- left, its times and its letters, and room in any buffer; `text` is what they wrote there, one after the other. For row 0 any row of W may be lent.
pub data Calls : (wall : Wall) → (row : Pulses) → (rest text : List ℕ) → Type 0 where
  over : {row : Pulses} {rest : List ℕ} → Calls Over row rest []
  lent : {p : Place} {row : Pulses} {rest text : List ℕ} (held : Pulses) → Calls (Start p) row rest text → Calls (Start p) held rest text
  taken : {x : Wall} {row : Pulses} {rest text : List ℕ} (held : List ℕ) (at : ℕ) (answer : Option Went) (next : Wall) (end : ℕ) (row_after : Pulses) (out : List ℕ) →
      Stepping x (take (due_of x) rest) row held at answer row_after out → wall_of answer ≡ some next → end_of answer ≡ some end →
      Calls next row_after (drop (due_of x) rest) text → Calls x row rest (drop at (take end out) ++ text)

-- §17.3 what the calls write over a whole file is what the definition says is printed of it
unfoldable pub CallsRight : Type 0
CallsRight = (row : Pulses) (file text : List ℕ) → Calls New row file text → text ≡ wall_text file

-- §17.3 a wall and its row that steps reach, whatever the parts hold; for row 0 any row may be lent
pub data Left : (wall : Wall) → (row : Pulses) → Type 0 where
  new : (row : Pulses) → Left New row
  lend : {p : Place} {row : Pulses} (held : Pulses) → Left (Start p) row → Left (Start p) held
  next : {x : Wall} {row : Pulses} (part : List ℕ) → wall_fits x (length row.times) ≡ true → wall_fits x (length row.letters) ≡ true → Left x row →
      Left (step_of x row part).next (step_of x row part).row

-- §17.3 a run never comes to a wall that fits no call: with room, and for row 0 a row of W, the next step is taken
unfoldable pub LeftFits : Type 0
LeftFits =
    (x : Wall) (row : Pulses) → Left x row →
    ((p : Place) → x ≡ Start p → (length row.times ≡ p.settings.width) × (length row.letters ≡ p.settings.width)) →
    (wall_fits x (length row.times) ≡ true) × (wall_fits x (length row.letters) ≡ true)
