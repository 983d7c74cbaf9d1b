-- A run of a wall file: the walls that its steps leave, and how many steps are left. Assumes nothing.
use Rattle.std.specs.Prelude.{◌≡◌, List, ℕ, ◌+◌, ◌*◌, ◌-◌, ◌≤◌, ◌<◌}
use Rattle.settings.specs.Settings.{settings_refusal}
use Rattle.row.specs.Row.{Pulses}
use Rattle.stages.specs.Fit.{due_of}
use Rattle.stages.specs.declared.Place.{Place}
use Rattle.stages.specs.declared.Wall.{Wall}
use Rattle.stages.specs.declared.Wall.TheVariants.{New, Start, Row, End, Over}
use Rattle.steps.specs.Step.{step_of}

-- §17.3 a place in a file: its settings pass, its row is one of theirs, and its offset is no larger than the fields before it
pub record Stood (p : Place) : Type 0 where
  pub pass : settings_refusal p.settings ≡ 0
  pub row : p.row ≤ p.settings.rows
  pub offset : p.offset ≤ 2078 + 7734 * p.row

-- §17.3 a wall that steps leave
unfoldable pub Stands : Wall → Type 0
Stands New = Unit {0}
Stands (Start p) = Stood p × (p.offset ≤ 27)
Stands (Row p) = Stood p × (p.row < p.settings.rows)
Stands (End p) = Stood p
Stands Over = Unit {0}

-- §17.3 how many steps are left, at most
unfoldable pub steps_left : Wall → ℕ
steps_left New = 1027
steps_left (Start p) = p.settings.rows + 2
steps_left (Row p) = p.settings.rows - p.row + 1
steps_left (End p) = 1
steps_left Over = 0

-- §17.3 a step with something due leaves such a wall again, and fewer steps
unfoldable pub StepsFewer : Type 0
StepsFewer =
    (x : Wall) (row : Pulses) (part : List ℕ) → Stands x → (due_of x ≡ 0 → ⊥) →
    Stands (step_of x row part).next × (steps_left (step_of x row part).next < steps_left x)
