-- What is asked of a wall file, as what its steps tell. Assumes nothing.
use Rattle.std.specs.Prelude.{◌≡◌, List, ℕ}
use Rattle.tables.specs.Word.{Tables}
use Rattle.row.specs.Row.{Pulses}
use Rattle.show.specs.Text.{texts_of}
use Rattle.steps.specs.Step.{step_of}
use Rattle.stages.specs.declared.Wall.{Wall}
use Rattle.told.specs.Telling.{Telling, says, Said}
use Rattle.told.specs.declared.Told.{Told}
use Rattle.telling.specs.Telling.{telling}
use Rattle.found.specs.Finding.{finding}
use Rattle.stream.specs.Run.{Kind}
use Rattle.asked.specs.declared.Asked.{Asked}
use Rattle.asked.specs.declared.Asked.TheVariants.{Lines, Range, Wide}

-- §16.4 a step, by what it tells: on a wall, with what is kept, the wall's row and the part that is due
abbrev pub Step : (told : Type 0) → Type 0
Step T = Wall → (kept : ℕ) → (row : Pulses) → (part : List ℕ) → T

-- §16.4 lines: the text of what a step shows; nothing is kept
unfoldable pub lines_told : Step Telling
lines_told x m r bs = let o = step_of x r bs in says o.next m (texts_of o.shows)

-- §16.4 what is asked: lines, the search range (§15.4) with the rows asked for, or the first wide seam (§E7.3)
unfoldable pub told_of : Asked → (rows : List ℕ) → Step Telling
told_of Lines rows x m r bs = lines_told x m r bs
told_of Range rows x m r bs = telling rows x m r.times bs
told_of (Wide n) rows x m r bs = finding n x m r.times bs

-- §16.4 a kind of run is what its steps tell, with the wall's row
unfoldable pub step_for : Asked → (rows : List ℕ) → Kind ℕ
step_for a rows x m r bs = let t = told_of a rows x m r bs in record { wall = t.wall; keeps = t.kept; row = (step_of x r bs).row; text = t.text }

-- §16.4 lines are written from tables, the others need none
abbrev pub HasTables : Asked → (given : List ℕ) → Type 0
HasTables Lines ts = Tables ts
HasTables Range ts = Unit {0}
HasTables (Wide n) ts = Unit {0}

-- §16.4 what was told of a step on a part and the wall's row, which the next one replaces
pub record Tells (teller : Step Telling) (x : Wall) (m : ℕ) (part : List ℕ) (lent : Pulses) (output : List ℕ) (at : ℕ) (r : Told) (lent_after : Pulses) (output_after : List ℕ) : Type 0 where
  pub said : Said (teller x m lent part) r output at output_after
  pub row : lent_after ≡ (step_of x lent part).row
