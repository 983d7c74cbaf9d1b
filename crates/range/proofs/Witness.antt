-- The two files of specs/Witness.antt, by computing them. Assumes nothing.
use mathlib.Core.Path.{◌≡◌, refl, sym, ◌∙◌, ap}
use mathlib.Core.Bool.{Bool, true, false, not, ◌&&◌, beq, true≢false}
use mathlib.Core.List.{[], ◌∷◌}
use Prim.Native.Nat.{ℕ, zero, suc, ◌<◌}
use lib.Dec.{eqb, lit<}
use lib.ListN.{replicate}
use native.Mathlib.Omega.{arith}
use borrow.Author.Tests.{eqb-true, not-false}
use Rattle.settings.specs.Refusal.{first, or_else, outside, any_below}
use Rattle.settings.specs.Rounding.{up}
use Rattle.settings.specs.Settings.{settings, step, step_of, drift_cost, settings_tests, settings_cause, settings_refusal}
use Rattle.settings.specs.declared.Settings.{Settings}
use Rattle.settings.proofs.Laws.AnyBelow.{none_below}
use Rattle.rule.specs.Clock.{reads, first_tick}
use Rattle.rule.specs.Signed.{larger, smaller, natural}
use Rattle.rule.specs.Stamp.{earlier, later, earliest, latest, stamp_of}
use Rattle.rule.specs.Forward.{larger_at, least_to, D, heard_correction, P}
use Rattle.rule.specs.Pulse.{tile_P, tile_pulse}
use Rattle.columns.specs.Columns.{are_neighbours, columns_from, neighbours, is_predecessor, predecessors, links_before, place_in, link_place, link, table_from, any_of}
use Rattle.columns.specs.Marks.{marked, mark_bytes, faulty_among}
use Rattle.links.specs.Links.{bad_value, bad_link, bad_links}
use Rattle.admission.specs.Call.{Call, call}
use Rattle.admission.specs.Refusal.{lengths_are, lengths_right, stray_mark, late_time, crowded, over, row_tests, row_cause, row_refusal}
use Rattle.pulse.specs.Pulse.{arrives, arrival, read_at, stamp, pulse}
use Rattle.row.specs.Row.{row_of}
use Rattle.runs.specs.Run.{rows, call_at, row_at}
use Rattle.runs.specs.Reach.{Alike}
use Rattle.fields.specs.Bytes.{big_endian}
use Rattle.fields.specs.Field.{field_tests, field_cause, field_refusal, body}
use Rattle.contents.specs.Contents.{settings_in, times_in, late_start, tile_place, drifts_in, phases_in, tile_links, links_below, links_in, marks_field, row_size, marks_in, tiles_in, call_in}
use Rattle.steps.specs.Number.{settings_field_cause, start_cause, row_fields_cause, row_offset}
use Rattle.steps.specs.Shown.{row_shown, no_marks, number_shown}
use Rattle.file.specs.Cases.{put, printed_file}
use Rattle.file.specs.File.{or_shown, rows_shown, start_shown, shown}
use Rattle.file.specs.Limits.{settings_of, after_settings, start_of, after_start, calls_in, calls_of, rows_of}
use Rattle.range.specs.Read.{last_number}
use Rattle.range.specs.Promises.{TwoFiles, pulse_of, FileRange}
use Rattle.range.specs.Cases.{at_1000, broken_file, PrintedCases, ReadCases}
use Rattle.range.specs.Witness.{FilesWitnessed, FileRangeMet}
use Rattle.range.proofs.Cases.{printed_cases, read_cases}

-- neither is turned away
first_accepted : number_shown (shown printed_file) ≡ 0
unfolding printed_file put at_1000 broken_file shown start_shown rows_shown or_shown row_shown no_marks number_shown settings_field_cause start_cause row_fields_cause row_offset call_in tiles_in marks_in row_size marks_field links_in links_below tile_links phases_in drifts_in tile_place late_start times_in settings_in or_else body field_refusal field_cause field_tests big_endian row_of stamp read_at arrival arrives pulse row_refusal row_cause row_tests over crowded late_time stray_mark lengths_right lengths_are call bad_links bad_link bad_value faulty_among mark_bytes marked any_of table_from link link_place place_in links_before predecessors is_predecessor neighbours columns_from are_neighbours tile_pulse tile_P P heard_correction D least_to larger_at stamp_of latest earliest later earlier natural smaller larger first_tick reads settings_refusal settings_cause settings_tests drift_cost step_of step settings up any_below outside first
first_accepted = refl

second_accepted : number_shown (shown broken_file) ≡ 0
unfolding printed_file put at_1000 broken_file shown start_shown rows_shown or_shown row_shown no_marks number_shown settings_field_cause start_cause row_fields_cause row_offset call_in tiles_in marks_in row_size marks_field links_in links_below tile_links phases_in drifts_in tile_place late_start times_in settings_in or_else body field_refusal field_cause field_tests big_endian row_of stamp read_at arrival arrives pulse row_refusal row_cause row_tests over crowded late_time stray_mark lengths_right lengths_are call bad_links bad_link bad_value faulty_among mark_bytes marked any_of table_from link link_place place_in links_before predecessors is_predecessor neighbours columns_from are_neighbours tile_pulse tile_P P heard_correction D least_to larger_at stamp_of latest earliest later earlier natural smaller larger first_tick reads settings_refusal settings_cause settings_tests drift_cost step_of step settings up any_below outside first
second_accepted = refl

-- what they describe
wall : Settings
wall = settings 6 1 100 10 400 0 12

sound : Call
sound = call (0 ∷ []) (replicate 6 0) (replicate 6 0) (replicate 20 100) 6 6

broken : Call
broken =
    call (8 ∷ []) (replicate 6 0) (replicate 6 0)
    (100 ∷ 100 ∷ 100 ∷ 100 ∷ 100 ∷ 100 ∷ 100 ∷ 100 ∷ 100 ∷ 1000 ∷ 100 ∷ 1000 ∷ 100 ∷ 100 ∷ 1000 ∷ 100 ∷ 100 ∷ 1000 ∷ 100 ∷ 100 ∷ []) 6 6

first_settings : settings_of printed_file ≡ wall
unfolding printed_file put at_1000 broken_file settings_of after_settings start_of after_start calls_in calls_of call_in tiles_in marks_in row_size marks_field links_in links_below tile_links phases_in drifts_in tile_place times_in settings_in body big_endian call mark_bytes table_from links_before predecessors is_predecessor columns_from are_neighbours settings wall
first_settings = refl

second_settings : settings_of broken_file ≡ wall
unfolding printed_file put at_1000 broken_file settings_of after_settings start_of after_start calls_in calls_of call_in tiles_in marks_in row_size marks_field links_in links_below tile_links phases_in drifts_in tile_place times_in settings_in body big_endian call mark_bytes table_from links_before predecessors is_predecessor columns_from are_neighbours settings wall
second_settings = refl

same_start : start_of printed_file ≡ start_of broken_file
unfolding printed_file put at_1000 broken_file settings_of after_settings start_of after_start calls_in calls_of call_in tiles_in marks_in row_size marks_field links_in links_below tile_links phases_in drifts_in tile_place times_in settings_in body big_endian call mark_bytes table_from links_before predecessors is_predecessor columns_from are_neighbours settings
same_start = refl

first_calls : calls_of printed_file ≡ sound ∷ []
unfolding printed_file put at_1000 broken_file settings_of after_settings start_of after_start calls_in calls_of call_in tiles_in marks_in row_size marks_field links_in links_below tile_links phases_in drifts_in tile_place times_in settings_in body big_endian call mark_bytes table_from links_before predecessors is_predecessor columns_from are_neighbours settings sound
first_calls = refl

second_calls : calls_of broken_file ≡ broken ∷ []
unfolding printed_file put at_1000 broken_file settings_of after_settings start_of after_start calls_in calls_of call_in tiles_in marks_in row_size marks_field links_in links_below tile_links phases_in drifts_in tile_place times_in settings_in body big_endian call mark_bytes table_from links_before predecessors is_predecessor columns_from are_neighbours settings broken
second_calls = refl

-- the two calls differ in the mark of column 3 and in its links alone
link_differs : (c j : ℕ) → Bool
link_differs c j = is_predecessor 6 c j && (not (eqb j 3) && not (eqb (link 6 sound.links c j) (link 6 broken.links c j)))

links_checked : any_below 6 (λ c. any_below 6 (link_differs c)) ≡ false
unfolding link_differs sound broken call any_below link link_place links_before place_in predecessors is_predecessor are_neighbours columns_from
links_checked = refl

marks_checked : any_below 6 (λ c. marked sound.marks c) ≡ false
unfolding sound call any_below marked
marks_checked = refl

mark_differs : (c : ℕ) → Bool
mark_differs c = not (beq (marked broken.marks c) (eqb c 3))

faults_checked : any_below 6 mark_differs ≡ false
unfolding mark_differs broken call any_below marked
faults_checked = refl

only_call : (x : Call) (l : ℕ) → l < 1 → call_at (x ∷ []) l ≡ x
unfolding call_at
only_call x zero i = refl
only_call x (suc l) i = let never : ⊥ = omega arith in absurd never

beq_true : (a b : Bool) → not (beq a b) ≡ false → a ≡ b
beq_true true true e = refl
beq_true true false e = absurd (true≢false e)
beq_true false true e = absurd (true≢false e)
beq_true false false e = refl

alike : Alike 6 0 3 (sound ∷ []) (broken ∷ [])
alike =
    record {
      as_many = refl;
      drifts = λ l i. rw (only_call sound l i, only_call broken l i) (unfold sound broken call in refl);
      phases = λ l i. rw (only_call sound l i, only_call broken l i) (unfold sound broken call in refl);
      first_clean = λ l c i j. rw (only_call sound l i) (none_below (λ c. marked sound.marks c) 6 c j marks_checked);
      marks = λ l c i j. let here : l ≡ 0 = omega arith in
          rw (only_call broken l i, here) (beq_true (marked broken.marks c) (eqb c 3) (unfold mark_differs in none_below mark_differs 6 c j faults_checked));
      links = λ l c j i m n p q. let here : l ≡ 0 = omega arith in
          rw (only_call sound l i, only_call broken l i)
          (eqb-true (link 6 sound.links c j) (link 6 broken.links c j)
          (same_of c j p (rw here at q) (none_below (link_differs c) 6 j n (none_below (λ c. any_below 6 (link_differs c)) 6 c m links_checked))));
    }
  where
    same_of : (c j : ℕ) → is_predecessor 6 c j ≡ true → eqb j 3 ≡ false → link_differs c j ≡ false →
        eqb (link 6 sound.links c j) (link 6 broken.links c j) ≡ true
    same_of c j p q e = not-false _ (unfold link_differs in (rw (p, q) at e))

first_pulse : pulse_of printed_file 1 3 ≡ 1536
unfolding pulse_of rows_of rows row_at printed_file put at_1000 broken_file settings_of after_settings start_of after_start calls_in calls_of settings_field_cause start_cause row_fields_cause row_offset call_in tiles_in marks_in row_size marks_field links_in links_below tile_links phases_in drifts_in tile_place late_start times_in settings_in or_else body field_refusal field_cause field_tests big_endian row_of stamp read_at arrival arrives pulse row_refusal row_cause row_tests over crowded late_time stray_mark lengths_right lengths_are call bad_links bad_link bad_value faulty_among mark_bytes marked any_of table_from link link_place place_in links_before predecessors is_predecessor neighbours columns_from are_neighbours tile_pulse tile_P P heard_correction D least_to larger_at stamp_of latest earliest later earlier natural smaller larger first_tick reads settings_refusal settings_cause settings_tests drift_cost step_of step settings up any_below outside first
first_pulse = refl

second_pulse : pulse_of broken_file 1 3 ≡ 1464
unfolding pulse_of rows_of rows row_at printed_file put at_1000 broken_file settings_of after_settings start_of after_start calls_in calls_of settings_field_cause start_cause row_fields_cause row_offset call_in tiles_in marks_in row_size marks_field links_in links_below tile_links phases_in drifts_in tile_place late_start times_in settings_in or_else body field_refusal field_cause field_tests big_endian row_of stamp read_at arrival arrives pulse row_refusal row_cause row_tests over crowded late_time stray_mark lengths_right lengths_are call bad_links bad_link bad_value faulty_among mark_bytes marked any_of table_from link link_place place_in links_before predecessors is_predecessor neighbours columns_from are_neighbours tile_pulse tile_P P heard_correction D least_to larger_at stamp_of latest earliest later earlier natural smaller larger first_tick reads settings_refusal settings_cause settings_tests drift_cost step_of step settings up any_below outside first
second_pulse = refl

files : TwoFiles printed_file broken_file 0 3
files =
    record {
      first = first_accepted;
      second = second_accepted;
      settings = first_settings ∙ sym second_settings;
      start = same_start;
      column = rw first_settings (unfold wall settings in lit< tt);
      row = rw first_settings (unfold wall settings in lit< tt);
      alike = rw (first_settings, first_calls, second_calls) (unfold wall settings in alike);
    }

pub files_witnessed : FilesWitnessed
unfolding PrintedCases ReadCases
files_witnessed = record { files = files; here = first_pulse; there = second_pulse; range = ap last_number printed_cases.0 ∙ read_cases.0 }

pub file_range_met : FileRangeMet
unfolding FileRangeMet FileRange
file_range_met file_range = file_range (1 ∷ []) printed_file broken_file 0 3 files
