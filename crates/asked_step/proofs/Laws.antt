-- A step that is lent the last row's place to write, and a copy of that row to read. Assumes nothing.
use mathlib.Core.Path.{◌≡◌, ◌∙◌}
use mathlib.Core.Bool.{true}
use mathlib.Core.List.{List}
use Rattle.std.specs.Prelude.{Result}
use Prim.Native.Nat.{ℕ}
use lib.ListN.{length}
use Rattle.row.specs.Row.{Pulses, pulses}
use Rattle.stages.specs.Fit.{width_of, wall_fits}
use Rattle.stages.specs.declared.Wall.{Wall}
use Rattle.file.specs.Stands.{Stands}
use Rattle.file.proofs.Laws.Stands.{stands_fits}
use Rattle.steps.specs.Step.{step_of}
use Rattle.steps.specs.Take.{taken_of, step_from, StepTaken}
use Rattle.steps.specs.declared.RefusedAt.{RefusedAt}
use Rattle.show.proofs.Laws.{row_in_place}
use Rattle.told.specs.Telling.{Telling, Said}
use Rattle.told.specs.declared.Told.{Told}
use Rattle.asked.specs.Asked.{Step, Tells}

-- a step that is lent the last row's place to write, and a copy of that row to read
module _ (x : Wall) (part : List ℕ) (lent : Pulses) {last : List ℕ} (copied : last ≡ lent.times) where
  -- it leaves the next row there
  pub row_left : {t : Result Wall RefusedAt} {next : Pulses} → StepTaken x part last lent t next → next ≡ (step_of x lent part).row
  row_left k = rw copied at k.written ∙ row_in_place x lent part

  -- what was taken, by the copies
  pub taken_is : {t : Result Wall RefusedAt} {next : Pulses} {letters : List ℕ} → letters ≡ lent.letters → StepTaken x part last lent t next →
      t ≡ taken_of (step_of x (pulses last letters) part)
  unfolding step_from
  taken_is l k = k.is ∙ rw l

-- rows of the wall's width fit
pub copy_fits : (x : Wall) {from to : List ℕ} → Stands x → length from ≡ width_of x → to ≡ from → wall_fits x (length to) ≡ true
copy_fits x stands long e = rw (e, long) (stands_fits x stands)

-- what was told of the copies was told of the row
pub told : (t : Step Telling) (x : Wall) (m : ℕ) (part : List ℕ) (lent : Pulses) {last letters : List ℕ} {output output_after : List ℕ} {at : ℕ} {r : Told} {after : Pulses} →
    last ≡ lent.times → letters ≡ lent.letters → Said (t x m (pulses last letters) part) r output at output_after → after ≡ (step_of x lent part).row →
    Tells t x m part lent output at r after output_after
told t x m part lent e d said row = record { said = rw (e, d) at said; row = row }
