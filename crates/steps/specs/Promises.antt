-- What is promised of a step. Each statement is proved in proofs/Promises.antt, under its name in small letters. Assumes nothing.
use Rattle.std.specs.Prelude.{◌≡◌, true, false, List, ℕ, length, Option, Result}
use Rattle.std.proofs.Math.Option.{none, some}
use Rattle.row.specs.Row.{Pulses}
use Rattle.stages.specs.declared.Wall.{Wall}
use Rattle.stages.specs.declared.Wall.TheVariants.{Over}
use Rattle.steps.specs.Answer.{number_of, offset_of, wall_of, number_due, offset_due, wall_then, row_then}
use Rattle.steps.specs.Take.{all_fit, Takes}
use Rattle.steps.specs.declared.RefusedAt.{RefusedAt}

-- §13.4 and §13.2: the answer's number and values, and the lent rows afterwards, where the rows don't fit, where the part is accepted, and where
-- it is turned away
unfoldable pub TakeAnswered : Type 0
TakeAnswered =
    (x : Wall) (part row : List ℕ) (held : Pulses) (answer : Option (Result Wall RefusedAt)) (next : Pulses) → Takes x part row held answer next →
    (all_fit x (length row) held ≡ false → (number_of answer ≡ none) × (offset_of answer ≡ none) × (wall_of answer ≡ none) × (next ≡ held))
    × (all_fit x (length row) held ≡ true → number_due x row part ≡ 0 →
    (number_of answer ≡ some 0) × (offset_of answer ≡ none) × (wall_of answer ≡ some (wall_then x part)) × (next ≡ row_then x row part held))
    × (all_fit x (length row) held ≡ true → (number_due x row part ≡ 0 → ⊥) →
    (number_of answer ≡ some (number_due x row part)) × (offset_of answer ≡ some (offset_due x part)) × (wall_of answer ≡ some Over) × (next ≡ held))
