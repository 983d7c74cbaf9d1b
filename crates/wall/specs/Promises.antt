-- What is promised of a step with its text. Each statement is proved in proofs/Promises.antt, under its name in small letters.
-- Assumes nothing.
use Rattle.std.specs.Prelude.{◌≡◌, true, false, List, ℕ, ◌+◌, length, Option}
use Rattle.std.proofs.Math.Option.{none, some}
use Rattle.lines.specs.Line.{refused_line}
use Rattle.columns.specs.Wrote.{Wrote}
use Rattle.row.specs.Row.{Pulses}
use Rattle.show.specs.Text.{texts_of}
use Rattle.steps.specs.Answer.{number_due, offset_due, wall_then, row_then, shown_then}
use Rattle.stages.specs.declared.Wall.{Wall}
use Rattle.stages.specs.declared.Wall.TheVariants.{Over}
use Rattle.wall.specs.Operation.{fits, wall_of, end_of, Stepping}
use Rattle.wall.specs.declared.Went.{Went}

-- §13.4 an answer to a step that leaves a wall and shows a text: this wall, where the text ends, and the buffer afterwards
pub record Answered (held : List ℕ) (at : ℕ) (answer : Option Went) (out : List ℕ) (next : Wall) (text : List ℕ) : Type 0 where
  pub wall : wall_of answer ≡ some next
  pub end : end_of answer ≡ some (at + length text)
  pub written : Wrote held at text out (at + length text)

-- §13.4 and §13.2: where the step doesn't fit nothing has changed; where the part is accepted the text is that of the last row; where it is
-- turned away the text is the refusal's line, and the row is as it was
unfoldable pub StepAnswered : Type 0
StepAnswered =
    (x : Wall) (part : List ℕ) (row : Pulses) (held : List ℕ) (at : ℕ) (answer : Option Went) (row_after : Pulses) (out : List ℕ) → Stepping x part row held at answer row_after out →
    (fits x row (length held) at ≡ false → (wall_of answer ≡ none) × (end_of answer ≡ none) × (row_after ≡ row) × (out ≡ held))
    × (fits x row (length held) at ≡ true → number_due x row.times part ≡ 0 →
    Answered held at answer out (wall_then x part) (texts_of (shown_then x row part)) × (row_after ≡ row_then x row.times part row))
    × (fits x row (length held) at ≡ true → (number_due x row.times part ≡ 0 → ⊥) →
    Answered held at answer out Over (refused_line (number_due x row.times part) (offset_due x part)) × (row_after ≡ row))
