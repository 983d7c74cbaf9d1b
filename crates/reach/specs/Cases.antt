-- Answers at numbers. The wall has W 10, R 5, d 100, u 10, A 400, r 0, h 12. Each statement is proved in proofs/Cases.antt, under its
-- name in small letters. Assumes nothing.
use Rattle.std.specs.Prelude.{◌≡◌, true, false, List, [], ◌∷◌, ℕ}
use Rattle.std.proofs.Math.Option.{none, some}
use Rattle.settings.specs.Settings.{settings}
use Rattle.settings.specs.declared.Settings.{Settings}
use Rattle.runs.specs.Reach.{widest_gap}
use Rattle.reach.specs.Search.{gap_of, reach_of, reach_in_row}
use Rattle.reach.specs.Survey.{surveyed_of, largest_of}
use Rattle.reach.specs.Answers.{GapIs, ReachedIs, SurveyedIs}

-- §15.2 the settings of these cases
unfoldable pub wall : Settings
wall = settings 10 5 100 10 400 0 12

-- §15.1 row 0 of the wall of §14.4, and rows in which the widest are columns 0 and 2, columns W - 3 and W - 1, and no others so far apart
unfoldable pub WidestCases : Type 0
WidestCases =
    (widest_gap 6 (1000 ∷ 1000 ∷ 1000 ∷ 1080 ∷ 1000 ∷ 1000 ∷ []) ≡ 80)
    × (widest_gap 6 (1000 ∷ 1050 ∷ 1100 ∷ 1100 ∷ 1100 ∷ 1100 ∷ []) ≡ 100)
    × (widest_gap 6 (1100 ∷ 1100 ∷ 1100 ∷ 1100 ∷ 1050 ∷ 1000 ∷ []) ≡ 100)
    × (widest_gap 6 (1000 ∷ 1000 ∷ 1050 ∷ 1100 ∷ 1100 ∷ 1100 ∷ []) ≡ 50)

-- §15.1 ten tiles, with B 80
unfoldable pub row_80 : List ℕ
row_80 = 1000 ∷ 1000 ∷ 1000 ∷ 1080 ∷ 1000 ∷ 1000 ∷ 1000 ∷ 1000 ∷ 1000 ∷ 1000 ∷ []

-- §15.1 ten tiles, with B 100
unfoldable pub row_100 : List ℕ
row_100 = 1500 ∷ 1500 ∷ 1500 ∷ 1500 ∷ 1500 ∷ 1500 ∷ 1500 ∷ 1500 ∷ 1500 ∷ 1600 ∷ []

-- §15.1 a row of ten; 21 a row of nine or eleven; 1, 8 and 9 before it
unfoldable pub GapCases : Type 0
GapCases =
    GapIs (gap_of wall row_80) 0 (some 80)
    × GapIs (gap_of wall row_100) 0 (some 100)
    × GapIs (gap_of wall (1000 ∷ 1000 ∷ 1000 ∷ 1080 ∷ 1000 ∷ 1000 ∷ 1000 ∷ 1000 ∷ 1000 ∷ [])) 21 none
    × GapIs (gap_of wall (1000 ∷ row_80)) 21 none
    × GapIs (gap_of (settings 5 5 100 10 400 0 12) []) 1 none
    × GapIs (gap_of (settings 10 5 100 10 400 0 11) []) 8 none
    × GapIs (gap_of (settings 10 5 100 10 191 0 12) []) 9 none

-- §15.2 so many rows later, of a tile of the column, where B is 80: the ticks, and the first and last column
unfoldable pub Reaches : (rows column ticks first last : ℕ) → Type 0
Reaches n k t i j = ReachedIs (reach_of wall 80 n k) 0 false (some t) (some i) (some j)

-- §15.2 2 × 80 + 8 × 12 ticks a row later, and one more for each row after; the columns within so many hops of a middle column, of the first
-- three and of the last
unfoldable pub ReachCases : Type 0
ReachCases =
    Reaches 1 5 256 4 6
    × Reaches 2 5 257 3 7
    × Reaches 3 5 258 2 9
    × Reaches 4 5 259 0 9
    × Reaches 1 0 256 0 2
    × Reaches 2 0 257 0 3
    × Reaches 1 1 256 0 2
    × Reaches 1 2 256 0 3
    × Reaches 1 9 256 7 9
    × Reaches 2 9 257 6 9

-- §15.2 of rows f and L: outside
unfoldable pub Outside : (gap f later column : ℕ) → Type 0
Outside b f l k = ReachedIs (reach_in_row wall b f l k) 0 true none none none

-- §15.2 of rows f and L as many rows later; outside: a row up to f, a row past R, a column past W, a gap over 2^41 - 1; and the settings' number
-- before it
unfoldable pub OutsideCases : Type 0
OutsideCases =
    ReachedIs (reach_in_row wall 80 2 5 5) 0 false (some 258) (some 2) (some 9)
    × ReachedIs (reach_in_row wall 80 4 5 5) 0 false (some 256) (some 4) (some 6)
    × Outside 80 2 2 5
    × Outside 80 2 1 5
    × Outside 80 2 6 5
    × Outside 80 2 3 10
    × Outside 2199023255552 2 3 5
    × ReachedIs (reach_in_row wall 2199023255551 2 3 5) 0 false (some 4398046511198) (some 4) (some 6)
    × ReachedIs (reach_of wall 80 0 5) 0 true none none none
    × ReachedIs (reach_of wall 80 6 5) 0 true none none none
    × ReachedIs (reach_of (settings 5 5 100 10 400 0 12) 80 0 10) 1 false none none none
    × ReachedIs (reach_in_row (settings 5 5 100 10 400 0 12) 80 2 2 10) 1 false none none none

-- §15.3 B of row l and the larger of its reach in row R and the largest before it; outside from row R on; 21 and 1 as for B
unfoldable pub SurveyCases : Type 0
SurveyCases =
    SurveyedIs (surveyed_of wall 0 0 row_80) 0 false (some 80) (some 260)
    × SurveyedIs (surveyed_of wall 1 260 row_100) 0 false (some 100) (some 299)
    × SurveyedIs (surveyed_of wall 4 300 row_100) 0 false (some 100) (some 300)
    × SurveyedIs (surveyed_of wall 5 0 row_80) 0 true none none
    × SurveyedIs (surveyed_of wall 0 0 (1000 ∷ row_80)) 21 false none none
    × SurveyedIs (surveyed_of (settings 5 5 100 10 400 0 12) 5 0 []) 1 false none none

-- §15.3 the largest over two rows, whichever has it
unfoldable pub LargestCases : Type 0
LargestCases =
    (largest_of wall 0 0 (row_80 ∷ row_100 ∷ []) ≡ 299)
    × (largest_of wall 0 0 (row_100 ∷ row_80 ∷ []) ≡ 300)
