-- A place in a wall file, what is due there, and what fits it. Assumes nothing.
use Rattle.std.specs.Prelude.{Bool, true, cond, ◌&&◌, ℕ, ◌+◌, eqb, leb}
use Rattle.settings.specs.declared.Settings.{Settings}
use Rattle.contents.specs.Contents.{settings_size, start_size, row_size}
use Rattle.stages.specs.declared.Place.{Place}
use Rattle.stages.specs.declared.Wall.{Wall}
use Rattle.stages.specs.declared.Wall.TheVariants.{New, Start, Row, End, Over}
use Rattle.settings.specs.Settings.{settings_refusal}

-- §17.3 a place, by its settings, the last row accepted and the bytes taken
unfoldable pub place : Settings → (row offset : ℕ) → Place
place s l at = record { settings = s; row = l; offset = at }

-- §17.3 how many bytes of the file a step is given, fewer only where the file ends
unfoldable pub due_size : Wall → ℕ
due_size New = 3 + settings_size
due_size (Start p) = 3 + start_size p.settings.width
due_size (Row p) = row_size p.settings.width
due_size (End p) = 1
due_size Over = 0

-- §2.6 whether the settings pass, checked again
unfoldable pub passes : Place → Bool
passes p = eqb (settings_refusal p.settings) 0

-- §17.3 the bytes of a step, none where the settings don't pass
unfoldable pub due_of : Wall → ℕ
due_of New = due_size New
due_of (Start p) = cond (passes p) (due_size (Start p)) 0
due_of (Row p) = cond (passes p) (due_size (Row p)) 0
due_of (End p) = due_size (End p)
due_of Over = due_size Over

-- §17.3 how many times the wall's row has: W, or none before the settings are taken and where they don't pass
unfoldable pub width_of : Wall → ℕ
width_of New = 0
width_of (Start p) = cond (passes p) p.settings.width 0
width_of (Row p) = cond (passes p) p.settings.width 0
width_of (End p) = cond (passes p) p.settings.width 0
width_of Over = 0

-- §17.3 a place that steps leave, with a row of W times
unfoldable pub place_fits : Place → (row : ℕ) → Bool
place_fits p n =
    passes p && (eqb n p.settings.width && (leb p.row p.settings.rows && leb p.offset 4294967295))

-- §17.3 whether a row of so many times fits the wall; before the settings and after the end any does
unfoldable pub wall_fits : Wall → (row : ℕ) → Bool
wall_fits New n = true
wall_fits (Start p) n = place_fits p n
wall_fits (Row p) n = place_fits p n
wall_fits (End p) n = place_fits p n
wall_fits Over n = true
