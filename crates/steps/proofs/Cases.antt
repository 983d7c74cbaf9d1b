-- The cases of specs/Cases.antt, computed. Assumes nothing.
use mathlib.Core.Path.{refl}
use Rattle.settings.specs.Refusal.{first, or_else, outside, any_below}
use Rattle.settings.specs.Rounding.{up}
use Rattle.settings.specs.Settings.{settings, drift_cost, settings_tests, settings_cause}
use Rattle.columns.specs.Columns.{are_neighbours, columns_from, is_predecessor, predecessors, links_before, table_from}
use Rattle.columns.specs.Marks.{marked, mark_bytes, faulty_among}
use Rattle.admission.specs.Call.{call}
use Rattle.admission.specs.Refusal.{lengths_are, lengths_right, stray_mark, late_time, crowded, over, row_tests, row_cause}
use Rattle.fields.specs.Bytes.{big_endian}
use Rattle.fields.specs.Field.{field_tests, field_cause, field_refusal, body}
use Rattle.contents.specs.Contents.{settings_in, times_in, late_start, tile_place, drifts_in, phases_in, tile_links, links_below, links_in, marks_field, marks_in, tiles_in, call_in}
use Rattle.steps.specs.Cases.{placed, case, row_case, field, tile, step_cases, StepCasesMet}
use Rattle.steps.specs.Number.{settings_field_cause, start_cause, row_fields_cause, row_offset}
use Rattle.steps.specs.Step.{stepped, away, unless, settings_step, start_step, row_step, end_step, step_of}

pub step_cases_met : StepCasesMet
unfolding StepCasesMet step_cases placed case row_case field tile step_of settings_step start_step row_step end_step stepped away unless settings_field_cause start_cause row_fields_cause row_offset settings_in times_in late_start tile_place drifts_in phases_in tile_links links_below links_in marks_field marks_in tiles_in call_in field_tests field_cause field_refusal body or_else big_endian call lengths_are lengths_right stray_mark late_time crowded over row_tests row_cause marked mark_bytes faulty_among are_neighbours columns_from is_predecessor predecessors links_before table_from settings settings_cause settings_tests drift_cost up first outside any_below
step_cases_met = refl
