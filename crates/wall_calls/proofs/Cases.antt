-- The cases of specs/Cases.antt, computed. Assumes nothing.
use mathlib.Core.Path.{refl}
use Rattle.settings.specs.Refusal.{first, or_else, answer, outside, any_below}
use Rattle.settings.specs.Rounding.{up}
use Rattle.settings.specs.Settings.{settings, step, step_of, drift_cost, settings_tests, settings_cause, settings_refusal}
use Rattle.rule.specs.Clock.{reads, first_tick}
use Rattle.rule.specs.Signed.{larger, smaller, natural}
use Rattle.rule.specs.Stamp.{earlier, later, earliest, latest, stamp_of}
use Rattle.rule.specs.Forward.{larger_at, least_to, D, heard_correction, P}
use Rattle.rule.specs.Letter.{early_or_kept, heard_letter, letter}
use Rattle.rule.specs.Pulse.{tile_P, tile_pulse, tile_letter}
use Rattle.columns.specs.Columns.{are_neighbours, columns_from, neighbours, is_predecessor, predecessors, links_before, place_in as place_of, link_place, link, table_from, any_of}
use Rattle.columns.specs.Marks.{marked, mark_bytes, faulty_among}
use Rattle.links.specs.Links.{bad_value, bad_link, bad_links}
use Rattle.admission.specs.Call.{call}
use Rattle.admission.specs.Refusal.{lengths_are, lengths_right, stray_mark, late_time, crowded, over, row_tests, row_cause, row_refusal}
use Rattle.pulse.specs.Pulse.{arrives, arrival, read_at, stamp, pulse, letter_at}
use Rattle.row.specs.Row.{row_of, letters_of}
use Rattle.fields.specs.Bytes.{big_endian}
use Rattle.fields.specs.Field.{field_tests, field_cause, field_refusal, body}
use Rattle.contents.specs.Contents.{settings_in, times_in, late_start, tile_place, drifts_in, phases_in, tile_links, links_below, links_in, marks_field, row_size, marks_in, tiles_in, call_in}
use Rattle.stages.specs.Fit.{place, due_size, due_of, passes, place_fits, wall_fits}
use Rattle.steps.specs.Number.{settings_field_cause, start_cause, row_fields_cause, row_offset}
use Rattle.steps.specs.Shown.{row_shown, number_shown}
use Rattle.steps.specs.Step.{stepped as left_by, away as turned, unless, settings_step, start_step, row_step, end_step, step_of as wall_step}
use Rattle.steps.specs.Take.{refused_at, taken, taken_of, row_left, step_from, next_row, all_fit, answer_of, row_after}
use Rattle.layout.specs.Words.{settings_from, place_in, staged, wall_in, place_words, wall_words, refused_words, refused_number, takes}
use Rattle.wall_calls.specs.Answers.{away, stepped, step_answer, next_left, step_number, wall_left, offset_left}
use Rattle.wall_calls.specs.Cases.{Step, settings_field, wall_at, StepCases, Writes, row_0, row_fields, LetterCases, PhaseCases, AgainCases}

pub step_cases : StepCases
unfolding StepCases Step wall_at settings_field away stepped step_answer refused_number takes refused_words due_of due_size row_size marks_field mark_bytes wall_in staged place_in place_words wall_words settings_from settings place step_number wall_left offset_left answer_of step_from all_fit taken_of taken refused_at wall_fits place_fits passes settings_refusal settings_cause settings_tests first answer outside drift_cost up wall_step settings_step start_step end_step left_by turned unless settings_field_cause start_cause field_cause field_tests or_else body big_endian settings_in times_in late_start table_from any_below row_shown number_shown
step_cases = ((refl, refl, refl), (refl, refl, refl), (refl, refl, refl), (refl, refl, refl), (refl, refl, refl), (refl, refl, refl), (refl, refl, refl), (refl, refl, refl))

pub letter_cases : LetterCases
unfolding LetterCases Writes wall_at row_0 row_fields next_left refused_number takes due_of due_size row_size marks_field mark_bytes wall_in staged place_in settings_from settings place row_after next_row row_left step_from all_fit wall_fits place_fits passes settings_refusal settings_cause settings_tests first answer outside drift_cost up wall_step start_step row_step left_by turned unless start_cause row_fields_cause row_offset field_cause field_tests or_else body big_endian times_in late_start tile_place drifts_in phases_in tile_links links_below links_in marks_in tiles_in call_in call table_from any_below any_of row_shown number_shown row_refusal row_cause row_tests lengths_are lengths_right stray_mark late_time faulty_among crowded over bad_value bad_link bad_links marked link link_place links_before place_of predecessors is_predecessor are_neighbours columns_from neighbours row_of letters_of pulse letter_at tile_pulse tile_letter letter heard_letter early_or_kept tile_P P heard_correction D least_to larger_at larger smaller natural stamp arrival arrives read_at reads first_tick stamp_of earliest latest earlier later step_of step
letter_cases = (refl, refl, refl)

pub phase_cases : PhaseCases
unfolding PhaseCases Writes wall_at row_0 row_fields next_left refused_number takes due_of due_size row_size marks_field mark_bytes wall_in staged place_in settings_from settings place row_after next_row row_left step_from all_fit wall_fits place_fits passes settings_refusal settings_cause settings_tests first answer outside drift_cost up wall_step start_step row_step left_by turned unless start_cause row_fields_cause row_offset field_cause field_tests or_else body big_endian times_in late_start tile_place drifts_in phases_in tile_links links_below links_in marks_in tiles_in call_in call table_from any_below any_of row_shown number_shown row_refusal row_cause row_tests lengths_are lengths_right stray_mark late_time faulty_among crowded over bad_value bad_link bad_links marked link link_place links_before place_of predecessors is_predecessor are_neighbours columns_from neighbours row_of letters_of pulse letter_at tile_pulse tile_letter letter heard_letter early_or_kept tile_P P heard_correction D least_to larger_at larger smaller natural stamp arrival arrives read_at reads first_tick stamp_of earliest latest earlier later step_of step Step away stepped step_answer refused_words place_words wall_words step_number wall_left offset_left answer_of taken_of taken refused_at settings_step end_step settings_field_cause settings_in field_refusal
phase_cases = (refl, (refl, refl, refl))

pub again_cases : AgainCases
unfolding AgainCases Step wall_at settings_field away stepped step_answer refused_number takes refused_words due_of due_size row_size marks_field mark_bytes wall_in staged place_in place_words wall_words settings_from settings place step_number wall_left offset_left answer_of step_from all_fit taken_of taken refused_at wall_fits place_fits passes settings_refusal settings_cause settings_tests first answer outside drift_cost up wall_step settings_step start_step end_step left_by turned unless settings_field_cause start_cause field_cause field_tests or_else body big_endian settings_in times_in late_start table_from any_below row_shown number_shown
again_cases = ((refl, refl, refl), (refl, refl, refl), (refl, refl, refl), (refl, refl, refl), (refl, refl, refl), (refl, refl, refl), (refl, refl, refl), (refl, refl, refl), (refl, refl, refl))
