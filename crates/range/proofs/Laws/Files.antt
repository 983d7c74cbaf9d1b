-- Two files as two runs side by side, and how large a reach can be. Assumes nothing.
use mathlib.Core.Path.{◌≡◌}
use mathlib.Core.Bool.{false}
use mathlib.Core.List.{List, [], ◌∷◌}
use Prim.Native.Nat.{ℕ, suc, ◌+◌, ◌*◌, ◌≤◌, ◌<◌, max}
use lib.ListN.{length, get_or, take}
use native.Mathlib.Omega.{arith}
use Rattle.settings.specs.declared.Settings.{Settings}
use Rattle.rule.specs.Stamp.{latest_stamp}
use Rattle.columns.specs.Marks.{marked}
use Rattle.runs.specs.Run.{accepted_calls, call_at, row_at}
use Rattle.runs.specs.Reach.{Alike, TwoRuns, widest_gap, reach_ticks}
use Rattle.runs.proofs.Laws.Run.{run_of}
use Rattle.reach.specs.Survey.{last_reach, largest_of}
use Rattle.reach.proofs.Laws.Gap.{gap_small}
use Rattle.reach.proofs.Laws.Survey.{taken_length, taken_at, row_is}
use Rattle.reach.proofs.Laws.Range.{first_early}
use Rattle.file.specs.Promises.{FileIsRun, OthersRefused}
use Rattle.file.specs.Limits.{settings_of, start_of, calls_of, rows_of, Keeps}
use Rattle.file.proofs.Promises.{file_is_run, others_refused}
use Rattle.range.specs.Promises.{TwoFiles}

-- where no row has a wide gap, the largest reach is small
module _ (s : Settings) where
  abbrev most : ℕ
  most = 2 * latest_stamp + 8 * s.unit + s.rows

  pub largest_small : (l m : ℕ) (rs : List (List ℕ)) → ((i : ℕ) → i < length rs → widest_gap s.width (get_or rs i []) ≤ latest_stamp) → m ≤ most →
      largest_of s l m rs ≤ most
  unfolding largest_of last_reach reach_ticks
  largest_small l m [] narrow i = i
  largest_small l m (ts ∷ rs) narrow i =
      largest_small (suc l) (max m (last_reach s l ts)) rs (λ j k. narrow (suc j) (omega (arith, k))) (omega (arith, i, narrow 0 (omega arith)))

-- two files that are not turned away keep every limit, and their calls are two runs
pub first_keeps : {a b : List ℕ} {f k : ℕ} → TwoFiles a b f k → Keeps a
unfolding OthersRefused
first_keeps {a} t = others_refused a t.first

module _ {a b : List ℕ} {f k : ℕ} (t : TwoFiles a b f k) where
  abbrev s : Settings
  s = settings_of a

  abbrev rs : List (List ℕ)
  rs = start_of a ∷ rows_of a

  pub all_rows : length (rows_of a) ≡ s.rows
  unfolding FileIsRun
  all_rows = (file_is_run a (first_keeps t)).1

  called : s.rows ≡ length (calls_of a)
  unfolding FileIsRun rows_of
  called =
      let p = file_is_run a (first_keeps t) in
      let as_many = rw p.0 at (run_of s (calls_of a) (start_of a)).as_many in
      omega (arith, as_many, p.1)

  pub clean : (l c : ℕ) → l < s.rows → c < s.width → marked (call_at (calls_of a) l).marks c ≡ false
  clean l c i j = t.alike.first_clean l c (omega (arith, i, called)) j

  pub runs_of_files : TwoRuns Alike s.width f k (accepted_calls s (calls_of a) (start_of a)) (accepted_calls s (calls_of b) (start_of a))
  unfolding OthersRefused FileIsRun
  runs_of_files =
      let p = file_is_run a (first_keeps t) in
      let q = file_is_run b (others_refused b t.second) in
      let there : accepted_calls s (calls_of b) (start_of a) ≡ calls_of b = rw (t.settings, t.start) q.0 in
      rw (p.0, there) (record { row = omega (arith, t.row, called); column = t.column; alike = t.alike })

  -- the rows before the last have no wide gap
  narrow : (i : ℕ) → i < length (take s.rows rs) → widest_gap s.width (get_or (take s.rows rs) i []) ≤ latest_stamp
  unfolding rows_of
  narrow i j =
      let enough : s.rows ≤ length rs = omega (arith, all_rows) in
      let in_wall : i < s.rows = omega (arith, j, taken_length s.rows rs enough) in
      rw (taken_at s.rows i rs [] in_wall, row_is (start_of a) (rows_of a) i)
      (gap_small s.width (row_at (start_of a) (rows_of a) i)
      (first_early s (start_of a) (calls_of a) (calls_of b) f k runs_of_files i (omega (arith, all_rows, in_wall))))

  pub reach_small : largest_of s 0 0 (take s.rows rs) < 10000000000000
  reach_small =
      let l = (first_keeps t).settings_within in
      omega (arith, largest_small s 0 0 (take s.rows rs) narrow (omega arith), l.unit, l.rows)
