-- Two runs that meet the hypotheses of §12.3 and differ as far as 3h does not allow. The wall has W 6, R 2, d 100, u 10, A 400, r 2500,
-- h 13. All of row 0 is at 1000, and every clock drifts by r; a tile's own link has the longest delay, its other links the shortest. In the
-- second run the tile of column 3 in row 1 is broken, its arrivals come at 0, and a call is turned away in between. Assumes nothing.
use Rattle.std.specs.Prelude.{◌≡◌, List, [], ◌∷◌, map, ℕ, get_or, replicate}
use Rattle.settings.specs.Settings.{settings}
use Rattle.settings.specs.declared.Settings.{Settings}
use Rattle.columns.specs.Columns.{table_from}
use Rattle.admission.specs.Call.{Call, call}
use Rattle.runs.specs.Run.{accepted_calls, rows, row_at}
use Rattle.runs.specs.Reach.{Alike, TwoRuns, apart, widest_gap, Reach, OneFault}

-- §11.1 the settings of both runs
unfoldable pub wall : Settings
wall = settings 6 2 100 10 400 2500 13

-- §11.1 their row 0
unfoldable pub row_0 : List ℕ
row_0 = replicate 6 1000

-- §E4.5 the phases of the tiles, in either
unfoldable pub phases : List ℕ
phases = 0 ∷ 999999 ∷ 40000 ∷ 1 ∷ 500000 ∷ 999999 ∷ []

-- §11.6 a row without faults: the links of tiles 0 to 5, own's among them 100
unfoldable pub sound : Call
sound =
    call (0 ∷ []) (replicate 6 2500) phases
    (100 ∷ 90 ∷ 90 ∷ 90 ∷ 100 ∷ 90 ∷ 90 ∷ 90 ∷ 100 ∷ 90 ∷ 90 ∷ 100 ∷ 90 ∷ 90 ∷ 90 ∷ 100 ∷ 90 ∷ 90 ∷ 90 ∷ 100 ∷ []) 6 6

-- §11.6 column 3 is marked, and its links to tiles 2 to 5 are arrivals at 0
unfoldable pub broken : Call
broken =
    call (8 ∷ []) (replicate 6 2500) phases
    (100 ∷ 90 ∷ 90 ∷ 90 ∷ 100 ∷ 90 ∷ 90 ∷ 90 ∷ 100 ∷ 0 ∷ 90 ∷ 0 ∷ 90 ∷ 90 ∷ 0 ∷ 100 ∷ 90 ∷ 0 ∷ 90 ∷ 100 ∷ []) 6 6

-- §11.3 a call of wrong lengths, which is turned away
unfoldable pub stray : Call
stray = call [] [] [] [] 0 0

-- §11.6 the run without a faulty tile
unfoldable pub first_run : List Call
first_run = sound ∷ sound ∷ []

-- §11.6 the run with one
unfoldable pub second_run : List Call
second_run = sound ∷ stray ∷ broken ∷ []

-- §11.6 they are alike but for that tile
unfoldable pub Witnessed : Type 0
Witnessed = TwoRuns Alike wall.width 1 3 (accepted_calls wall first_run row_0) (accepted_calls wall second_run row_0)

-- §11.4 the rows of the first
unfoldable pub first_rows : List (List ℕ)
first_rows = replicate 6 1499 ∷ replicate 6 1998 ∷ []

-- §11.4 the rows of the second
unfoldable pub second_rows : List (List ℕ)
second_rows = replicate 6 1499 ∷ (1998 ∷ 1998 ∷ 1972 ∷ 1949 ∷ 1971 ∷ 1971 ∷ []) ∷ []

-- §11.4 these are their rows
unfoldable pub RowsMet : Type 0
RowsMet = (rows wall first_run row_0 ≡ first_rows) × (rows wall second_run row_0 ≡ second_rows)

-- §E4.5 a call with phases of 0 in their place
unfoldable pub without_phases : Call → Call
without_phases x = call x.marks x.drifts (replicate 6 0) x.links x.room x.letter_room

-- §E4.5 the phases count: without them tile 2 of row 2 pulses a tick earlier in the second run, and every other as it does
unfoldable pub PhasesCount : Type 0
PhasesCount =
    rows wall (map without_phases second_run) row_0 ≡ replicate 6 1499 ∷ (1998 ∷ 1998 ∷ 1971 ∷ 1949 ∷ 1971 ∷ 1971 ∷ []) ∷ []

-- §12.3 B of row 1 is 0; the pulses of row 2 differ by 49 in the broken column, by 26 or 27 a hop from it, and not further off
unfoldable pub DifferencesMet : Type 0
DifferencesMet =
    (widest_gap 6 (row_at row_0 first_rows 1) ≡ 0)
    × (table_from 6 0 (λ c. apart (get_or (row_at row_0 first_rows 2) c 0) (get_or (row_at row_0 second_rows 2) c 0)) ≡ 0 ∷ 0 ∷ 26 ∷ 49 ∷ 27 ∷ 27 ∷ [])

-- §12.3 the reach of that tile, by these numbers alone
unfoldable pub ReachMet : Type 0
ReachMet = Reach wall row_0 1 3 first_rows second_rows

-- §12.3 `OneFault` is of such runs: applied to these it gives their reach
unfoldable pub OneFaultMet : Type 0
OneFaultMet = OneFault → ReachMet
