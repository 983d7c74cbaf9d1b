-- What a step of a wall file tells where the first wide seam is asked for. Assumes nothing.
use Rattle.std.specs.Prelude.{◌≡◌, List, [], ℕ}
use Rattle.std.proofs.Math.Option.{Option, none, some}
use Rattle.lines.specs.Line.{refused_line}
use Rattle.row.specs.Row.{pulses}
use Rattle.stages.specs.declared.Wall.{Wall}
use Rattle.stages.specs.declared.Wall.TheVariants.{New, Start, Row, End, Over}
use Rattle.steps.specs.Answer.{number_due, offset_due, wall_then, shown_then}
use Rattle.steps.specs.Step.{step_of}
use Rattle.told.specs.Telling.{Telling, says}
use Rattle.found.specs.Found.{Found, found, answer_text}

-- §E7.3 by what is found in what a step shows: an answer, and the file is not read on; where the file has ended and nothing is found, no
unfoldable pub found_then : Wall → (after : Wall) → (kept : ℕ) → Option Found → Telling
found_then x after m (some a) = says Over m (answer_text (some a))
found_then New after m none = says after m []
found_then (Start p) after m none = says after m []
found_then (Row p) after m none = says after m []
found_then (End p) after m none = says after m (answer_text none)
found_then Over after m none = says after m []

-- §E7.3 what a step tells: its refusal, or what is found in the row that is then shown. The letters of the row tell nothing.
unfoldable pub finding : (limit : ℕ) → Wall → (kept : ℕ) → (row part : List ℕ) → Telling
finding n x m ts bs =
    let o = step_of x (pulses ts []) bs in
    found_then x o.next m (found n o.shows)

-- §E7.3 a part that is turned away is the answer, before any seam of the row that it would have let be shown; one that is accepted lets
-- its row be looked at. Proved in proofs/Promises.antt, under its name in small letters.
unfoldable pub RefusalFirst : Type 0
RefusalFirst =
    (n : ℕ) (x : Wall) (m : ℕ) (ts bs : List ℕ) →
    ((number_due x ts bs ≡ 0 → ⊥) → finding n x m ts bs ≡ says Over m (refused_line (number_due x ts bs) (offset_due x bs)))
    × (number_due x ts bs ≡ 0 → finding n x m ts bs ≡ found_then x (wall_then x bs) m (found n (shown_then x (pulses ts []) bs)))
