-- What steps tell, at numbers, as it is printed. Each statement is proved in proofs/Cases.antt, under its name in small letters.
-- Assumes nothing.
use Rattle.std.specs.Prelude.{◌≡◌, List, [], ◌∷◌, ℕ}
use Rattle.settings.specs.Settings.{settings}
use Rattle.stages.specs.Fit.{place}
use Rattle.stages.specs.declared.Place.{Place}
use Rattle.stages.specs.declared.Wall.TheVariants.{New, End, Over}
use Rattle.file.specs.Cases.{printed}
use Rattle.told.specs.Telling.{says}
use Rattle.telling.specs.Telling.{first_marked, row_says, telling}

-- §7.2 a bit for each column, from the lowest of the first byte on: no mark, that of column 3, of columns 3 and 1, of column 9
unfoldable pub MarkedCases : Type 0
MarkedCases =
    (first_marked 10 (0 ∷ 0 ∷ []) ≡ 10)
    × (first_marked 10 (8 ∷ 0 ∷ []) ≡ 3)
    × (first_marked 10 (10 ∷ 0 ∷ []) ≡ 1)
    × (first_marked 10 (0 ∷ 2 ∷ []) ≡ 9)

-- §14.4 this wall at a row, so many bytes taken
unfoldable pub at_row : (row offset : ℕ) → Place
at_row l at = place (settings 6 1 100 10 400 0 12) l at

-- §14.4 its row 0
unfoldable pub row_0 : List ℕ
row_0 = 1000 ∷ 1000 ∷ 1000 ∷ 1080 ∷ 1000 ∷ 1000 ∷ []

-- §15.4 a row without faults, where row 1 is asked for, with the largest so far; a faulty tile ends the search
unfoldable pub RowCases : Type 0
RowCases =
    (row_says (1 ∷ []) (at_row 0 78) (End (at_row 1 281)) 0 (0 ∷ []) row_0 ≡ says (End (at_row 1 281)) 256 (printed ("b 0 80" ∷ "r 0 1 256 1" ∷ [])))
    × (row_says [] (at_row 0 78) (End (at_row 1 281)) 300 (0 ∷ []) row_0 ≡ says (End (at_row 1 281)) 300 (printed ("b 0 80" ∷ [])))
    × (row_says (1 ∷ []) (at_row 0 78) (End (at_row 1 281)) 0 (40 ∷ []) row_0 ≡ says Over 0 (printed ("faulty 0 3" ∷ [])))

-- §15.4 the end of the file, with the largest; a byte after it; a file that ends before its settings
unfoldable pub EndCases : Type 0
EndCases =
    (telling [] (End (at_row 1 281)) 256 row_0 [] ≡ says Over 256 (printed ("largest 256 ticks" ∷ [])))
    × (telling [] (End (at_row 1 281)) 256 row_0 (0 ∷ []) ≡ says Over 256 (printed ("refused 44 at 281" ∷ [])))
    × (telling [] New 0 [] [] ≡ says Over 0 (printed ("refused 43 at 0" ∷ [])))
