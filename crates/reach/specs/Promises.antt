-- What a search has to cover, in the words of the answers: of any row of a wall, and of two runs side by side. Each statement is
-- proved in proofs/Promises.antt, under its name in small letters. Assumes nothing.
use Rattle.std.specs.Prelude.{◌≡◌, ◌↔◌, true, false, List, ◌∷◌, ℕ, ◌-◌, ◌≤◌, ◌<◌, length, get_or, take, Option, Result}
use Rattle.std.proofs.Math.Option.{some}
use Rattle.settings.specs.Settings.{settings_refusal}
use Rattle.settings.specs.declared.Settings.{Settings}
use Rattle.settings.specs.declared.refusal.Refusal.{Refusal}
use Rattle.columns.specs.Columns.{are_neighbours}
use Rattle.rule.specs.Stamp.{latest_stamp}
use Rattle.admission.specs.Call.{Call}
use Rattle.runs.specs.Run.{accepted_calls, rows, row_at}
use Rattle.runs.specs.Reach.{Alike, TwoRuns, apart, widest_gap, reach_ticks}
use Rattle.reach.specs.Span.{first_within, last_within}
use Rattle.reach.specs.Search.{gap_of, reach_of, reach_in_row}
use Rattle.reach.specs.Survey.{largest_of}
use Rattle.reach.specs.Answers.{gap_B, reached_ticks, reached_first, reached_last, GapIs, ReachedIs}
use Rattle.reach.specs.declared.Range.{Range}

-- §15.1 what B is: no two neighbours differ by more, and it is no more than has to be
unfoldable pub BLargest : Type 0
BLargest =
    (w : ℕ) (row : List ℕ) (most : ℕ) →
    ((c j : ℕ) → c < w → j < w → are_neighbours w c j ≡ true → apart (get_or row c 0) (get_or row j 0) ≤ most) ↔ (widest_gap w row ≤ most)

-- §15.2 a row of a wall has W times of at most 2^41 - 1 (`RowSmall`, crate runs): its B is never turned away, and its reach from any column
-- in any later row is neither turned away nor outside
unfoldable pub RowReached : Type 0
RowReached =
    (s : Settings) (row : List ℕ) (f l k : ℕ) → settings_refusal s ≡ 0 → length row ≡ s.width →
    ((c : ℕ) → c < s.width → get_or row c 0 ≤ latest_stamp) → f < l → l ≤ s.rows → k < s.width →
    let b = widest_gap s.width row in
    GapIs (gap_of s row) 0 (some b)
    × ReachedIs (reach_in_row s b f l k) 0 false (some (reach_ticks s b (l - f))) (some (first_within s.width k (l - f))) (some (last_within s.width k (l - f)))

-- §15.2 what an answer says of two rows: they are the same before its first column and after its last, and differ by at most its ticks.
-- It has these values, so it is neither outside nor turned away.
pub record Covers (answer : Result (Option Range) Refusal) (w : ℕ) (here there : List ℕ) : Type 0 where
  pub ticks : ℕ
  pub first : ℕ
  pub last : ℕ
  pub has_ticks : reached_ticks answer ≡ some ticks
  pub has_first : reached_first answer ≡ some first
  pub has_last : reached_last answer ≡ some last
  pub before : (c : ℕ) → c < w → c < first → get_or here c 0 ≡ get_or there c 0
  pub after : (c : ℕ) → c < w → last < c → get_or here c 0 ≡ get_or there c 0
  pub near : (c : ℕ) → c < w → apart (get_or here c 0) (get_or there c 0) ≤ ticks

-- §12.3 B of row f of the first run is answered, and what is then answered for the tile's column in a
-- later row, by its number or so many rows later, covers that row of both runs
pub record Searched (s : Settings) (row : List ℕ) (f l k : ℕ) (here there : List ℕ) : Type 0 where
  pub B : ℕ
  pub has_B : gap_B (gap_of s row) ≡ some B
  pub in_row : Covers (reach_in_row s B f l k) s.width here there
  pub by_rows : Covers (reach_of s B (l - f) k) s.width here there

-- §12.3 so it is of any two runs that are alike but for one faulty tile: the reach in the words of the answers
unfoldable pub SearchRange : Type 0
SearchRange =
    (s : Settings) (ts : List ℕ) (xs ys : List Call) (f k l : ℕ) → TwoRuns Alike s.width f k (accepted_calls s xs ts) (accepted_calls s ys ts) →
    length (rows s xs ts) ≡ s.rows → f < l → l ≤ s.rows →
    Searched s (row_at ts (rows s xs ts) f) f l k (row_at ts (rows s xs ts) l) (row_at ts (rows s ys ts) l)

-- §15.3 the number that a search range is set to: no pulse of any row differs by more than the largest reach over rows 0 to R - 1 of the run
-- without faults
unfoldable pub LargestEnough : Type 0
LargestEnough =
    (s : Settings) (ts : List ℕ) (xs ys : List Call) (f k l c : ℕ) → TwoRuns Alike s.width f k (accepted_calls s xs ts) (accepted_calls s ys ts) →
    length (rows s xs ts) ≡ s.rows → l ≤ s.rows → c < s.width →
    apart (get_or (row_at ts (rows s xs ts) l) c 0) (get_or (row_at ts (rows s ys ts) l) c 0)
    ≤ largest_of s 0 0 (take s.rows (ts ∷ rows s xs ts))
