-- The statements applied to the two runs of crate runs' witness, so that they say something: the tile of column 3 in row 1 is broken, and
-- the pulses of row 2 differ by 26, 49, 27 and 27 in columns 2 to 5. Proved in proofs/Witness.antt. Assumes nothing.
use Rattle.std.specs.Prelude.{false, ℕ, ◌≤◌, ◌<◌, get_or}
use Rattle.std.proofs.Math.Option.{some}
use Rattle.runs.specs.Run.{row_at}
use Rattle.runs.specs.Reach.{apart}
use Rattle.runs.specs.Witness.{wall, row_0, first_rows, second_rows}
use Rattle.reach.specs.Search.{gap_of, reach_in_row}
use Rattle.reach.specs.Answers.{GapIs, ReachedIs}
use Rattle.reach.specs.Promises.{Searched, SearchRange, LargestEnough}

-- §15.2 B of row 1 is 0, and in row 2 the answer is 104 ticks and columns 2 to 5, which are just those that differ
unfoldable pub AnswerMet : Type 0
AnswerMet =
    GapIs (gap_of wall (row_at row_0 first_rows 1)) 0 (some 0)
    × ReachedIs (reach_in_row wall 0 1 2 3) 0 false (some 104) (some 2) (some 5)

-- §12.3 `SearchRange` is of such runs
unfoldable pub SearchRangeMet : Type 0
SearchRangeMet = SearchRange → Searched wall (row_at row_0 first_rows 1) 1 2 3 (row_at row_0 first_rows 2) (row_at row_0 second_rows 2)

-- §15.3 the largest reach is that of row 0, two rows before the last
unfoldable pub LargestEnoughMet : Type 0
LargestEnoughMet = LargestEnough → (l c : ℕ) → l ≤ 2 → c < 6 → apart (get_or (row_at row_0 first_rows l) c 0) (get_or (row_at row_0 second_rows l) c 0) ≤ 105
