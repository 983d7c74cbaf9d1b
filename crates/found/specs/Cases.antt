-- What `wallwide` prints of whole files, from their bytes, and what a step tells. Each statement is proved in proofs/Cases.antt, under its
-- name in small letters. Assumes nothing.
use Rattle.std.specs.Prelude.{◌≡◌, List, [], ◌∷◌, ◌++◌, map, ℕ}
use Prim.Native.String.{String}
use Rattle.settings.specs.Settings.{settings}
use Rattle.stages.specs.Fit.{place}
use Rattle.stages.specs.declared.Place.{Place}
use Rattle.stages.specs.declared.Wall.TheVariants.{New, Row, End, Over}
use Rattle.told.specs.Telling.{says}
use Rattle.file.specs.Cases.{printed, put, printed_file, faulty_file}
use Rattle.found.specs.Found.{wide_text}
use Rattle.found.specs.Finding.{finding}

-- §E7.4 the answer for a file under some limits
unfoldable pub answers : (file limits : List ℕ) → List (List ℕ)
answers file ns = map (λ n. wide_text n file) ns

-- §E7.4 lines that are each an answer
unfoldable pub answered : List String → List (List ℕ)
answered [] = []
answered (s ∷ ss) = printed (s ∷ []) ∷ answered ss

-- §14.4 this wall, at the half gap of its seams 2 and 3, and of 3 and 4, and under it
unfoldable pub PrintedAnswered : Type 0
PrintedAnswered =
    answers printed_file (0 ∷ 35 ∷ 36 ∷ 4398046511104 ∷ []) ≡ answered ("wide 1 2 3 36" ∷ "wide 1 2 3 36" ∷ "no" ∷ "no" ∷ [])

-- §E7.3 two rows, the first with a faulty tile, whose seams are open: a gap below zero in the first, columns 0 and 2 in the second
unfoldable pub FaultyAnswered : Type 0
FaultyAnswered =
    answers faulty_file (14 ∷ 15 ∷ 58 ∷ 59 ∷ 110 ∷ 111 ∷ [])
    ≡ answered ("wide 1 0 1 15" ∷ "wide 1 3 4 59" ∷ "wide 1 3 4 59" ∷ "wide 2 0 2 111" ∷ "wide 2 0 2 111" ∷ "no" ∷ [])

-- §E7.3 a refusal of row 2, and row 1 does not count; a byte more, and row 2 does not count but row 1 does; no byte at all
unfoldable pub RefusedAnswered : Type 0
RefusedAnswered =
    (answers (put 386 (39 ∷ 17 ∷ []) faulty_file) (0 ∷ []) ≡ answered ("refused 25 at 285" ∷ []))
    × (answers (faulty_file ++ (3 ∷ [])) (14 ∷ 59 ∷ []) ≡ answered ("wide 1 0 1 15" ∷ "refused 44 at 484" ∷ []))
    × (answers (printed_file ++ (0 ∷ [])) (0 ∷ []) ≡ answered ("refused 44 at 281" ∷ []))
    × (answers [] (0 ∷ []) ≡ answered ("refused 43 at 0" ∷ []))

-- §14.4 this wall with two rows, so many bytes taken
unfoldable pub at_row : (row offset : ℕ) → Place
at_row l at = place (settings 6 2 100 10 400 0 12) l at

-- §14.4 its row 1
unfoldable pub row_1 : List ℕ
row_1 = 1500 ∷ 1500 ∷ 1500 ∷ 1536 ∷ 1500 ∷ 1500 ∷ []

-- §E7.3 the end of the file after row 2: a wide seam, at the limit none; a byte more, and the row does not count
unfoldable pub EndCases : Type 0
EndCases =
    (finding 35 (End (at_row 2 484)) 0 row_1 [] ≡ says Over 0 (printed ("wide 2 2 3 36" ∷ [])))
    × (finding 36 (End (at_row 2 484)) 0 row_1 [] ≡ says Over 0 (printed ("no" ∷ [])))
    × (finding 0 (End (at_row 2 484)) 0 row_1 (0 ∷ []) ≡ says Over 0 (printed ("refused 44 at 484" ∷ [])))

-- §E7.3 row 2 is missing, or its fields are, and row 1 does not count; a file that ends before its settings
unfoldable pub RefusedCases : Type 0
RefusedCases =
    (finding 0 (Row (at_row 1 281)) 0 row_1 [] ≡ says Over 0 (printed ("refused 43 at 281" ∷ [])))
    × (finding 0 (Row (at_row 1 281)) 0 row_1 (3 ∷ 0 ∷ 1 ∷ 0 ∷ []) ≡ says Over 0 (printed ("refused 43 at 285" ∷ [])))
    × (finding 0 New 0 [] [] ≡ says Over 0 (printed ("refused 43 at 0" ∷ [])))
