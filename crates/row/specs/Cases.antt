-- Whole rows at numbers: the answer, and what lent rows that held sevens hold afterwards. Assumes nothing.
use Rattle.std.specs.Prelude.{◌≡◌, List, [], ◌∷◌, ℕ, replicate, Result, Ok, Err}
use Rattle.settings.specs.Settings.{settings}
use Rattle.settings.specs.declared.Settings.{Settings}
use Rattle.settings.specs.declared.refusal.Refusal.{Refusal}
use Rattle.settings.specs.declared.refusal.Refusal.TheVariants.{Crowded, Phase}
use Rattle.admission.specs.Call.{Call, call}
use Rattle.admission.specs.Cases.{wall, times, time, drifts, phases, phase, delays, marks}
use Rattle.row.specs.Row.{ends_at, planned, written, lettered}
use Rattle.row.specs.declared.Ends.{Ends}

-- §7.6 a call's answer, and the rows that held sevens afterwards: the times, and the letters (§E3.4)
unfoldable pub Plans : Settings → (before : List ℕ) → Call → Result Ends Refusal → (times letters : List ℕ) → Type 0
Plans s ts x answer times letters = (planned s ts x ≡ answer) × (written s ts x (replicate 6 7) ≡ times) × (lettered s ts x (replicate 6 7) ≡ letters)

-- §14.4 the row of the printed wall
unfoldable pub PrintedPlanned : Type 0
PrintedPlanned =
    Plans wall (time 3 1080) (call (marks 0) drifts phases delays 6 6) (Ok (ends_at 1500 1536)) (1500 ∷ 1500 ∷ 1500 ∷ 1536 ∷ 1500 ∷ 1500 ∷ [])
    (107 ∷ 107 ∷ 107 ∷ 108 ∷ 107 ∷ 107 ∷ [])

-- §7.6 with r 10,000 and h 16: tiles that drift, late enough for it to show
unfoldable pub DriftingPlanned : Type 0
DriftingPlanned =
    Plans (settings 6 1 100 10 400 10000 16) (replicate 6 1000000) (call (marks 0) (10000 ∷ 5000 ∷ 0 ∷ 0 ∷ 1 ∷ 9999 ∷ []) phases delays 6 6)
    (Ok (ends_at 1000496 1000500)) (1000497 ∷ 1000498 ∷ 1000500 ∷ 1000500 ∷ 1000500 ∷ 1000496 ∷ [])
    (replicate 6 107)

-- §7.6 and with times, delays and drifts of all kinds, where column 3 is broken: early to tiles 2 and 5, silent to tile 3, late to tile 4
unfoldable pub BrokenPlanned : Type 0
BrokenPlanned =
    Plans (settings 6 1 100 10 400 10000 16) (1000 ∷ 1010 ∷ 1040 ∷ 1080 ∷ 1007 ∷ 990 ∷ [])
    (call (marks 8) (0 ∷ 5000 ∷ 0 ∷ 10000 ∷ 10000 ∷ 1 ∷ []) phases
    (100 ∷ 91 ∷ 97 ∷ 90 ∷ 100 ∷ 95 ∷ 93 ∷ 90 ∷ 100 ∷ 1000 ∷ 90 ∷ 18446744073709551615 ∷ 95 ∷ 100 ∷ 1300 ∷ 100 ∷ 90 ∷ 1000 ∷ 99 ∷ 100 ∷ []) 6 6)
    (Ok (ends_at 1457 1574)) (1500 ∷ 1504 ∷ 1507 ∷ 1574 ∷ 1503 ∷ 1457 ∷ []) (107 ∷ 109 ∷ 98 ∷ 108 ∷ 107 ∷ 98 ∷ [])

-- §E4.1 the same with phases: tiles 1 and 3 pulse a tick earlier and tile 4 a tick later; of the others no clock drifts, or by one part in a million
unfoldable pub PhasedPlanned : Type 0
PhasedPlanned =
    Plans (settings 6 1 100 10 400 10000 16) (1000 ∷ 1010 ∷ 1040 ∷ 1080 ∷ 1007 ∷ 990 ∷ [])
    (call (marks 8) (0 ∷ 5000 ∷ 0 ∷ 10000 ∷ 10000 ∷ 1 ∷ []) (999999 ∷ 510000 ∷ 690000 ∷ 640000 ∷ 960000 ∷ 999999 ∷ [])
    (100 ∷ 91 ∷ 97 ∷ 90 ∷ 100 ∷ 95 ∷ 93 ∷ 90 ∷ 100 ∷ 1000 ∷ 90 ∷ 18446744073709551615 ∷ 95 ∷ 100 ∷ 1300 ∷ 100 ∷ 90 ∷ 1000 ∷ 99 ∷ 100 ∷ []) 6 6)
    (Ok (ends_at 1457 1573)) (1500 ∷ 1503 ∷ 1507 ∷ 1573 ∷ 1504 ∷ 1457 ∷ []) (107 ∷ 109 ∷ 98 ∷ 108 ∷ 107 ∷ 98 ∷ [])

-- §13.2 a row that is turned away, by its marks and by a phase (§E4.3)
unfoldable pub RefusedPlanned : Type 0
RefusedPlanned =
    Plans wall times (call (marks 3) drifts phases delays 6 6) (Err Crowded) (replicate 6 7) (replicate 6 7)
    × Plans wall times (call (marks 0) drifts (phase 5 1000000) delays 6 6) (Err Phase) (replicate 6 7) (replicate 6 7)
