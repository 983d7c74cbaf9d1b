-- Calls of the operation `take` itself, known by its contract alone. Assumes nothing.
use Rattle.std.specs.Prelude.{◌≡◌, List, [], ◌∷◌, ◌++◌, ℕ, take, drop, Option, Some, None, Result, Ok, Err}
use Rattle.std.proofs.Math.Option as maybe
use Rattle.row.specs.Row.{Pulses}
use Rattle.stages.specs.Fit.{due_of}
use Rattle.stages.specs.declared.Place.{Place}
use Rattle.stages.specs.declared.Wall.{Wall}
use Rattle.stages.specs.declared.Wall.TheVariants.{New, Start, Row, End, Over}
use Rattle.steps.specs.Answer.{wall_of, shown_then}
use Rattle.steps.specs.Shown.{Shown, turned_away}
use Rattle.steps.specs.Take.{Takes}
use Rattle.steps.specs.declared.RefusedAt.{RefusedAt}
use Rattle.file.specs.File.{shown}

-- §10.1 what a call shows by its answer: the refusal, or the row that was lent where the part lets it be shown
unfoldable pub call_shows : (due : Wall) → (row : Pulses) → (part : List ℕ) → Option (Result Wall RefusedAt) → List Shown
call_shows x r bs (Some (Ok y)) = shown_then x r bs
call_shows x r bs (Some (Err why)) = turned_away why.refusal why.offset ∷ []
call_shows x r bs None = []

-- §11.2 the row that the next call is lent: what this one wrote, row 0 or the next row, where it writes one
unfoldable pub lent_next : (due : Wall) → (row next : Pulses) → Pulses
lent_next New r next = r
lent_next (Start p) r next = next
lent_next (Row p) r next = next
lent_next (End p) r next = r
lent_next Over r next = r

-- §17.3 calls over a file until it is over: each is given as many bytes as are due, fewer only where the file ends, the row that the last one
-- wrote, and any rows to write; its letters are kept beside it; `shows` is what they write and answer, one after the other. For row 0 any row of W may be lent.
pub data TakeCalls : (wall : Wall) → (row : Pulses) → (rest : List ℕ) → (shows : List Shown) → Type 0 where
  over : {row : Pulses} {rest : List ℕ} → TakeCalls Over row rest []
  lent : {p : Place} {row : Pulses} {rest : List ℕ} {shows : List Shown} (held : Pulses) → TakeCalls (Start p) row rest shows → TakeCalls (Start p) held rest shows
  taken : {x : Wall} {row : Pulses} {rest : List ℕ} {shows : List Shown} (held : Pulses) (a : Option (Result Wall RefusedAt)) (next_wall : Wall) (next : Pulses) →
      Takes x (take (due_of x) rest) row.times held a next → wall_of a ≡ maybe.some next_wall →
      TakeCalls next_wall (lent_next x row next) (drop (due_of x) rest) shows → TakeCalls x row rest (call_shows x row (take (due_of x) rest) a ++ shows)

-- §17.3 what the calls write and answer over a whole file are the rows and the refusal that the definition says are shown of it
unfoldable pub TakeCallsRight : Type 0
TakeCallsRight = (row : Pulses) (file : List ℕ) (shows : List Shown) → TakeCalls New row file shows → shows ≡ shown file
