-- The proofs of what specs/Promises.antt states. Assumes nothing.
use mathlib.Core.Path.{◌≡◌, ◌∙◌, ap}
use mathlib.Core.List.{List, ◌∷◌, ◌++◌}
use Prim.Native.Nat.{ℕ, ◌≤◌, ◌<◌}
use lib.ListN.{take}
use native.Mathlib.Omega.{arith}
use Rattle.settings.proofs.Laws.Refusal.{none_of}
use Rattle.runs.specs.Reach.{apart}
use Rattle.reach.specs.Survey.{largest_of}
use Rattle.reach.specs.Promises.{LargestEnough}
use Rattle.reach.proofs.Promises.{largest_enough}
use Rattle.steps.specs.Number.{settings_field_cause, settings_number, start_cause, start_number}
use Rattle.file.specs.Limits.{settings_of, after_settings, start_of, after_start, calls_of, rows_of}
use Rattle.file.proofs.Promises.{rows_place, settings_accepted, start_accepted, first_row, few_rows}
use Rattle.search_lines.specs.Text.{largest_text}
use Rattle.range.specs.File.{or_told, start_told, file_told, search_text}
use Rattle.range.specs.Read.{last_number}
use Rattle.range.specs.Promises.{gaps_text, WholeTold, CutTold, TwoFiles, pulse_of, FileRange, Unasked}
use Rattle.range.proofs.Laws.Unasked.{unasked_same}
use Rattle.range.proofs.Laws.Whole.{rows_whole}
use Rattle.range.proofs.Laws.Read.{last_largest}
use Rattle.range.proofs.Laws.Cut.{told_whole}
use Rattle.range.proofs.Laws.Files.{first_keeps, all_rows, clean, runs_of_files, reach_small}

pub unasked : Unasked
unfolding Unasked
unasked asked file n = unasked_same asked n file

pub whole_told : WholeTold
unfolding WholeTold search_text file_told start_told or_told settings_number start_number settings_of start_of rows_of calls_of after_settings after_start
whole_told asked file k h =
    let s = settings_of file in
    rw (none_of (settings_field_cause file) (settings_accepted file k), none_of (start_cause (settings_of file) (after_settings file)) (start_accepted file k))
    (rows_whole s asked s.rows 0 (rows_place file) 0 (start_of file) (after_start file) k.rows_keep (first_row file k) (omega arith) (omega (arith, few_rows file k)) h)

pub cut_told : CutTold
unfolding CutTold WholeTold
cut_told asked file k h n less begin e =
    let s = settings_of file in
    let rs = take s.rows (start_of file ∷ rows_of file) in
    let told = whole_told asked file k h in
    told_whole s asked rs (largest_of s 0 0 rs) n (rw told at less) begin (rw told at e)

module _ (asked a b : List ℕ) (f k : ℕ) (t : TwoFiles a b f k) where
  -- what is printed of the first, and the number that it ends with
  abbrev largest : ℕ
  largest = largest_of (settings_of a) 0 0 (take (settings_of a).rows (start_of a ∷ rows_of a))

  abbrev lines : List ℕ
  lines = gaps_text (settings_of a) asked 0 (take (settings_of a).rows (start_of a ∷ rows_of a))

  told : search_text asked a ≡ lines ++ largest_text largest
  unfolding WholeTold
  told = whole_told asked a (first_keeps t) (clean t)

  read : last_number (search_text asked a) ≡ largest
  read = ap last_number told ∙ last_largest lines largest (omega (arith, reach_small t))

  enough : (l c : ℕ) → l ≤ (settings_of a).rows → c < (settings_of a).width → apart (pulse_of a l c) (pulse_of b l c) ≤ last_number (search_text asked a)
  unfolding LargestEnough pulse_of rows_of
  enough l c i j =
      rw (read, ← t.settings, ← t.start)
      (largest_enough (settings_of a) (start_of a) (calls_of a) (calls_of b) f k l c (runs_of_files t) (all_rows t) i j)

pub file_range : FileRange
unfolding FileRange
file_range asked a b f k t =
    record {
      lines = lines asked a b f k t;
      printed = rw (read asked a b f k t) (told asked a b f k t);
      enough = enough asked a b f k t;
    }
