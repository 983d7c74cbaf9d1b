-- What a step answers and leaves at numbers, by the words of bindings/c/polzaintu.h. The wall is the small one of docs/FORMAT.md. Each
-- statement is proved in proofs/Cases.antt, under its name in small letters. Assumes nothing.
use Rattle.std.specs.Prelude.{◌≡◌, List, [], ◌∷◌, ◌++◌, ℕ, replicate}
use Rattle.row.specs.Row.{pulses}
use Rattle.wall_calls.specs.Answers.{step_answer, next_left, step_number, wall_left, offset_left}

-- §17.3 polzaintu_wall_step, with rows to write of so many times and letters: the number, the wall and the offset
unfoldable pub Step : (wall part row : List ℕ) → (next letters number : ℕ) → (wall_after : List ℕ) → (offset : ℕ) → Type 0
Step ws part row next letters n after at =
    let a = step_answer ws part row (pulses (replicate next 7) (replicate letters 8)) in
    (step_number a ≡ n) × (wall_left a ws ≡ after) × (offset_left a 7 ≡ at)

-- §14.4 the settings, as tag 1 has them
unfoldable pub settings_field : List ℕ
settings_field =
    1 ∷ 0 ∷ 24 ∷ 0 ∷ 6 ∷ 0 ∷ 1 ∷ 0 ∷ 0 ∷ 0 ∷ 100 ∷ 0 ∷ 0 ∷ 0 ∷ 10 ∷ 0 ∷ 0 ∷ 1 ∷ 144 ∷ 0 ∷ 0 ∷ 0 ∷ 0 ∷ 0 ∷ 0 ∷ 0 ∷ 12 ∷ []

-- §17.2 the wall's words at a stage
unfoldable pub wall_at : (stage row offset : ℕ) → List ℕ
wall_at n l at = n ∷ 6 ∷ 1 ∷ 100 ∷ 10 ∷ 400 ∷ 0 ∷ 12 ∷ l ∷ at ∷ []

-- §17.3 settings taken; a file that ends too soon; row 0 taken; another tag than due, 27 bytes in; a row to be written of another length, of
-- times and of letters; the end of the file; a byte after it
unfoldable pub StepCases : Type 0
StepCases =
    Step (replicate 10 0) settings_field [] 0 0 0 (wall_at 1 0 27) 7
    × Step (replicate 10 0) (1 ∷ 0 ∷ 24 ∷ []) [] 0 0 43 (5 ∷ 0 ∷ 0 ∷ 0 ∷ 0 ∷ 0 ∷ 0 ∷ 0 ∷ 43 ∷ 0 ∷ []) 0
    × Step (wall_at 1 0 27) (2 ∷ 0 ∷ 48 ∷ replicate 48 0) (replicate 6 0) 6 6 0 (wall_at 2 0 78) 7
    × Step (wall_at 1 0 27) (3 ∷ 0 ∷ 48 ∷ []) (replicate 6 0) 6 6 41 (wall_at 5 41 27) 27
    × Step (wall_at 1 0 27) (2 ∷ 0 ∷ 48 ∷ replicate 48 0) (replicate 6 0) 5 6 4294967295 (wall_at 1 0 27) 7
    × Step (wall_at 1 0 27) (2 ∷ 0 ∷ 48 ∷ replicate 48 0) (replicate 6 0) 6 5 4294967295 (wall_at 1 0 27) 7
    × Step (wall_at 3 1 281) [] (replicate 6 0) 6 6 0 (wall_at 4 1 281) 7
    × Step (wall_at 3 1 281) (0 ∷ []) (replicate 6 0) 6 6 44 (wall_at 5 44 281) 281

-- §E3.6 the rows to write after such a step, which held sevens and eights
unfoldable pub Writes : (wall part row : List ℕ) → (times letters : List ℕ) → Type 0
Writes ws part row times letters = next_left ws part row (pulses (replicate 6 7) (replicate 6 8)) ≡ pulses times letters

-- §14.4 row 0 at 1000, with 1080 in column 3
unfoldable pub row_0 : List ℕ
row_0 = 1000 ∷ 1000 ∷ 1000 ∷ 1080 ∷ 1000 ∷ 1000 ∷ []

-- §14.4 the fields of its row 1: no marks, drifts of 0, a phase (§E4.4), links of so many ticks
unfoldable pub row_fields : (phase : List ℕ) → (link : ℕ) → List ℕ
row_fields q v =
    let link : List ℕ = 0 ∷ 0 ∷ 0 ∷ 0 ∷ 0 ∷ 0 ∷ 0 ∷ v ∷ [] in
    let tile : List ℕ = 0 ∷ 0 ∷ (q ++ link ++ link ++ link) in
    3 ∷ 0 ∷ 1 ∷ 0 ∷ 4 ∷ 0 ∷ 196 ∷ (tile ++ tile ++ (tile ++ link) ++ (tile ++ link) ++ tile ++ tile)

-- §E3.6 row 0 leaves the letters; row 1 is written with its times and letters, k, k, k, l, k, k; a row that is turned away leaves both
unfoldable pub LetterCases : Type 0
LetterCases =
    Writes (wall_at 1 0 27) (2 ∷ 0 ∷ 48 ∷ replicate 48 0) (replicate 6 0) (replicate 6 0) (replicate 6 8)
    × Writes (wall_at 2 0 78) (row_fields (replicate 4 0) 100) row_0 (1500 ∷ 1500 ∷ 1500 ∷ 1536 ∷ 1500 ∷ 1500 ∷ []) (107 ∷ 107 ∷ 107 ∷ 108 ∷ 107 ∷ 107 ∷ [])
    × Writes (wall_at 2 0 78) (row_fields (replicate 4 0) 101) row_0 (replicate 6 7) (replicate 6 8)

-- §E4.4 phases of 999,999, which change nothing where no clock drifts; of 1,000,000, which are 53 and not 26, at tag 4
unfoldable pub PhaseCases : Type 0
PhaseCases =
    Writes (wall_at 2 0 78) (row_fields (0 ∷ 15 ∷ 66 ∷ 63 ∷ []) 100) row_0 (1500 ∷ 1500 ∷ 1500 ∷ 1536 ∷ 1500 ∷ 1500 ∷ []) (107 ∷ 107 ∷ 107 ∷ 108 ∷ 107 ∷ 107 ∷ [])
    × Step (wall_at 2 0 78) (row_fields (0 ∷ 15 ∷ 66 ∷ 64 ∷ []) 101) row_0 6 6 53 (wall_at 5 53 82) 82

-- §17.3 an ended file once more, and with a byte; a file that is turned away once more, whatever is lent; a part longer than is due, at its
-- start and at its end; a refusal without a number, or with that of what is
-- unfit, and a stage past all
unfoldable pub AgainCases : Type 0
AgainCases =
    Step (wall_at 4 1 281) [] [] 0 0 0 (wall_at 4 1 281) 7
    × Step (wall_at 4 1 281) (0 ∷ []) [] 0 0 4294967295 (wall_at 4 1 281) 7
    × Step (wall_at 5 41 27) [] (replicate 6 0) 6 6 41 (wall_at 5 41 27) 27
    × Step (wall_at 5 41 27) (2 ∷ 0 ∷ []) [] 1 1 41 (wall_at 5 41 27) 27
    × Step (replicate 10 0) (0 ∷ settings_field) [] 0 0 4294967295 (replicate 10 0) 7
    × Step (wall_at 3 1 281) (0 ∷ 0 ∷ []) (replicate 6 0) 6 6 4294967295 (wall_at 3 1 281) 7
    × Step (wall_at 5 0 27) [] [] 0 0 4294967295 (wall_at 5 0 27) 7
    × Step (wall_at 5 4294967295 27) [] [] 0 0 4294967295 (wall_at 5 4294967295 27) 7
    × Step (wall_at 6 41 27) [] [] 0 0 4294967295 (wall_at 6 41 27) 7
