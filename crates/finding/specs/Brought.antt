-- What a step brings whose part is accepted, and what is told of it. Assumes nothing.
use Rattle.std.specs.Prelude.{Bool, true, false, cond, List, [], ℕ, eqb, Option, Some, None, Result, Ok, Err}
use Rattle.std.proofs.Math.Option.{none, some}
use Rattle.settings.specs.declared.refusal.Refusal.{Refusal}
use Rattle.contents.specs.Contents.{marks_in}
use Rattle.stages.specs.declared.Place.{Place}
use Rattle.stages.specs.declared.Wall.{Wall}
use Rattle.stages.specs.declared.Wall.TheVariants as wall
use Rattle.steps.specs.Shown.{no_marks}
use Rattle.told.specs.Telling.{Telling, says}
use Rattle.wide.specs.Wide.{first_wide}
use Rattle.wide.specs.declared.Wide as seam
use Rattle.found.specs.Found.{wide, answer_text}
use Rattle.finding.specs.declared.Brought.{Brought}
use Rattle.finding.specs.declared.Brought.TheVariants.{Wide, No}

-- §E7.3 what a row brings by its first wide seam: without one, no where it is the last
unfoldable pub first_brought : (row : ℕ) → (last : Bool) → Result (Option seam.Wide) Refusal → Option Brought
first_brought l last (Ok (Some x)) = Some (Wide l x)
first_brought l last (Ok None) = cond last (Some No) None
first_brought l last (Err why) = cond last (Some No) None

-- §E7.3 what the row at a place brings; row 0 is not shown
unfoldable pub row_brought : (limit : ℕ) → Place → (last : Bool) → (marks row : List ℕ) → Option Brought
row_brought n p last ms ts = first_brought p.row last (cond (eqb p.row 0) (Ok None) (first_wide p.settings ts ms n))

-- §E7.3 what a step brings: its row, where it lets one be shown
unfoldable pub step_brought : (limit : ℕ) → Wall → (row part : List ℕ) → Option Brought
step_brought n wall.New ts bs = None
step_brought n (wall.Start p) ts bs = None
step_brought n (wall.Row p) ts bs = row_brought n p false (marks_in p.settings.width bs) ts
step_brought n (wall.End p) ts bs = row_brought n p true (no_marks p.settings.width) ts
step_brought n wall.Over ts bs = None

-- §E7.3 what is told of it: the file is not read on once a wide seam is found
unfoldable pub telling_of : (after : Wall) → (kept : ℕ) → Option Brought → Telling
telling_of after m (Some (Wide l x)) = says wall.Over m (answer_text (some (wide l x.left x.right x.half_ticks)))
telling_of after m (Some No) = says after m (answer_text none)
telling_of after m None = says after m []
