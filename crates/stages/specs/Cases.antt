-- What is due of a wall of six columns and two rows, how long its row is, and which row fits it. Assumes nothing.
use Rattle.std.specs.Prelude.{◌≡◌, true, false, ℕ}
use Rattle.stages.specs.Fit.{due_of, width_of, wall_fits}
use Rattle.stages.specs.declared.Place.{Place}
use Rattle.stages.specs.declared.Wall.TheVariants.{New, Start, Row, End, Over}

-- §17.3 a place in its file, by W, the rows accepted so far and the bytes taken
unfoldable pub placed : (width row offset : ℕ) → Place
placed w l at =
    record {
      settings = record { width = w; rows = 2; delay = 100; uncertainty = 10; hold = 400; drift = 0; unit = 12 };
      row = l;
      offset = at;
    }

-- §17.3 3 bytes and a body of 24, of 8W, of W / 8 rounded up and of 30W + 16; a byte more would be 44
unfoldable pub DueMet : Type 0
DueMet =
    (due_of New ≡ 27) × (due_of (Start (placed 6 0 27)) ≡ 51) × (due_of (Row (placed 6 0 78)) ≡ 203) × (due_of (Row (placed 6 1 281)) ≡ 203)
    × (due_of (End (placed 6 2 484)) ≡ 1) × (due_of Over ≡ 0) × (due_of (Start (placed 5 0 27)) ≡ 0)

-- §17.3 a row is W long once W is known
unfoldable pub WidthMet : Type 0
WidthMet =
    (width_of New ≡ 0) × (width_of (Start (placed 6 0 27)) ≡ 6) × (width_of (Row (placed 6 0 78)) ≡ 6) × (width_of (End (placed 6 2 484)) ≡ 6)
    × (width_of Over ≡ 0) × (width_of (Start (placed 5 0 27)) ≡ 0)

-- §17.3 a row of another length does not fit
unfoldable pub FitMet : Type 0
FitMet =
    (wall_fits (Row (placed 6 1 281)) 6 ≡ true) × (wall_fits (Row (placed 6 1 281)) 5 ≡ false) × (wall_fits (Row (placed 6 1 281)) 7 ≡ false)
    × (wall_fits (Row (placed 5 1 281)) 5 ≡ false) × (wall_fits New 0 ≡ true)
