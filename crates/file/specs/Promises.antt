-- What is promised of a wall file. Each statement is proved in proofs/Promises.antt, under its name in small letters.
-- Assumes nothing.
use Rattle.std.specs.Prelude.{◌≡◌, Bool, true, ◌||◌, List, [], ◌∷◌, ◌↔◌, ℕ, ◌≤◌, ◌<◌, leb, eqb, length, get_or}
use Rattle.std.proofs.Math.Option.{some}
use Rattle.columns.specs.Columns.{are_neighbours, any_of}
use Rattle.columns.specs.Marks.{marked}
use Rattle.row.specs.Row.{Pulses, pulses}
use Rattle.runs.specs.Run.{accepted_calls}
use Rattle.runs.specs.Reach.{Alike, TwoRuns, Reach}
use Rattle.settings.specs.Refusal.{number_in}
use Rattle.seam.specs.Seam.{seam_of, side_of}
use Rattle.seam.specs.declared.Side.TheVariants.{Both}
use Rattle.steps.specs.Shown.{Shown, lines, turned_away, number_shown}
use Rattle.file.specs.File.{shown}
use Rattle.steps.specs.Step.{steps_shown}
use Rattle.file.specs.Limits.{settings_of, start_of, calls_of, rows_of, Keeps, run_shown}
use Rattle.stages.specs.declared.Wall.TheVariants.{New}

-- §17.3 running the steps over any bytes, whatever the row held, shows what the definition of the whole shows, and 1,027 steps are enough
unfoldable pub StepsRight : Type 0
StepsRight = (n : ℕ) (row : Pulses) (file : List ℕ) → 1026 < n → steps_shown n New row file ≡ shown file

-- §12.1 a wall within all limits is accepted, and the rows of its run are shown
unfoldable pub AcceptedWhole : Type 0
AcceptedWhole =
    (file : List ℕ) → Keeps file →
    shown file ≡ run_shown (settings_of file) 0 (calls_of file) (pulses (start_of file) []) (rows_of file)

-- §12.1 any other is turned away: a file that isn't keeps every limit
unfoldable pub OthersRefused : Type 0
OthersRefused = (file : List ℕ) → number_shown (shown file) ≡ 0 → Keeps file

-- §12.1 so the limits, said plainly, are those of the refusals: a file keeps them exactly where it is not turned away
unfoldable pub FilePlain : Type 0
FilePlain = (file : List ℕ) → Keeps file ↔ (number_shown (shown file) ≡ 0)

-- §9.6 the numbers that a file can meet, 0 with them; 21 and 23 are none
unfoldable pub in_a_file : (number : ℕ) → Bool
in_a_file n = leb n 9 || any_of (22 ∷ 24 ∷ 25 ∷ 26 ∷ 41 ∷ 42 ∷ 43 ∷ 44 ∷ 45 ∷ 53 ∷ []) (eqb n)

-- §9.6 a file meets no others
unfoldable pub NumbersMet : Type 0
NumbersMet = (file : List ℕ) → in_a_file (number_shown (shown file)) ≡ true

-- §10.3 what holds of each row that is shown: it has six tiles or more, and none of its seams is turned away with 31 or is `open both`
unfoldable pub SeamsHold : Shown → Type 0
SeamsHold (lines w l ms r) =
    (6 ≤ w)
    × ((a b : ℕ) → a < w → b < w → are_neighbours w a b ≡ true →
    let seam = seam_of (get_or r.times a 0) (marked ms a) (get_or r.times b 0) (marked ms b) in
    (number_in seam ≡ 0) × (side_of seam ≡ some Both → ⊥))
SeamsHold (turned_away why at) = Unit {0}

-- §10.1 something holds of all that is shown
pub data Every (P : Shown → Type 0) : List Shown → Type 0 where
  no_more : Every P []
  also : {x : Shown} {xs : List Shown} → P x → Every P xs → Every P (x ∷ xs)

-- §10.3 so it is with all seams of a file
unfoldable pub SeamsAnswered : Type 0
SeamsAnswered = (file : List ℕ) → Every SeamsHold (shown file)

-- §11.8 each call of a file that keeps every limit is accepted, and they are R
unfoldable pub FileIsRun : Type 0
FileIsRun =
    (file : List ℕ) → Keeps file →
    (accepted_calls (settings_of file) (calls_of file) (start_of file) ≡ calls_of file) × (length (rows_of file) ≡ (settings_of file).rows)

-- §12.3 so the reach of one faulty tile holds of files
unfoldable pub FileOneFault : Type 0
FileOneFault =
    (a b : List ℕ) (f k : ℕ) → Keeps a → Keeps b → settings_of a ≡ settings_of b → start_of a ≡ start_of b →
    TwoRuns Alike (settings_of a).width f k (calls_of a) (calls_of b) → Reach (settings_of a) (start_of a) f k (rows_of a) (rows_of b)
