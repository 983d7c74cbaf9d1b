-- A step in the place of the last row. Assumes nothing.
use Rattle.std.specs.Prelude.{◌≡◌, List, ℕ, Result}
use Rattle.row.specs.Row.{Pulses}
use Rattle.stages.specs.declared.Wall.{Wall}
use Rattle.steps.specs.Step.{step_of}
use Rattle.steps.specs.Take.{taken_of}
use Rattle.steps.specs.declared.RefusedAt.{RefusedAt}

-- §16.4 what was taken is the step's, the last row is kept, and the row that the step leaves stands in its place
pub record Replaces (x : Wall) (part : List ℕ) (lent : Pulses) (t : Result Wall RefusedAt) (last after : Pulses) : Type 0 where
  pub taken : t ≡ taken_of (step_of x lent part)
  pub kept : last ≡ lent
  pub row : after ≡ (step_of x lent part).row
