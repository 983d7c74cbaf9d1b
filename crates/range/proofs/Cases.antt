-- The cases of specs/Cases.antt, computed. Assumes nothing.
use mathlib.Core.Path.{refl}
use Rattle.settings.specs.Refusal.{first, or_else, answer, outside, any_below}
use Rattle.settings.specs.Rounding.{up}
use Rattle.settings.specs.Settings.{settings, step, step_of, drift_cost, settings_tests, settings_cause, settings_refusal}
use Rattle.rule.specs.Clock.{reads, first_tick}
use Rattle.rule.specs.Signed.{larger, smaller, natural}
use Rattle.rule.specs.Stamp.{earlier, later, earliest, latest, stamp_of}
use Rattle.rule.specs.Forward.{larger_at, least_to, D, heard_correction, P}
use Rattle.rule.specs.Pulse.{tile_P, tile_pulse}
use Rattle.columns.specs.Columns.{are_neighbours, columns_from, neighbours, is_predecessor, predecessors, links_before, place_in, link_place, link, table_from, any_of}
use Rattle.columns.specs.Marks.{marked, mark_bytes, faulty_among}
use Rattle.links.specs.Links.{bad_value, bad_link, bad_links}
use Rattle.admission.specs.Call.{call}
use Rattle.admission.specs.Refusal.{lengths_are, lengths_right, stray_mark, late_time, crowded, over, row_tests, row_cause, row_refusal}
use Rattle.pulse.specs.Pulse.{arrives, arrival, read_at, stamp, pulse}
use Rattle.row.specs.Row.{row_of}
use Rattle.runs.specs.Reach.{apart, widest, gap_below, widest_gap, reach_ticks}
use Rattle.reach.specs.Span.{end_within, first_within, last_within}
use Rattle.reach.specs.Search.{gap_of, outside_wall, range_of, range_within, reach_of, reach_in_row}
use Rattle.reach.specs.Survey.{surveyed, with_reach, with_gap, surveyed_of}
use Rattle.lines.specs.Number.{glyph, decimal_in, decimal}
use Rattle.lines.specs.Line.{refused_line, numbers_text, line_text}
use Rattle.lines.specs.Promises.{is_digit, value_of}
use Rattle.fields.specs.Bytes.{big_endian}
use Rattle.fields.specs.Field.{field_tests, field_cause, field_refusal, body}
use Rattle.contents.specs.Contents.{settings_in, times_in, late_start, tile_place, drifts_in, phases_in, tile_links, links_below, links_in, marks_field, row_size, marks_in, tiles_in, call_in}
use Rattle.file.specs.Cases.{codes, printed, put, printed_file}
use Rattle.steps.specs.Number.{settings_field_cause, start_cause, row_fields_cause, row_offset}
use Rattle.search_lines.specs.Text.{largest_text, reach_text, reach_texts, gap_text}
use Rattle.telling.specs.Telling.{first_in, first_marked}
use Rattle.range.specs.File.{with_lines, or_told, rows_told, start_told, file_told, search_text}
use Rattle.range.specs.Read.{read_from, last_number}
use Rattle.range.specs.Cases.{at_1000, broken_file, PrintedCases, ReadCases}

pub printed_cases : PrintedCases
unfolding PrintedCases printed_file put at_1000 broken_file search_text file_told start_told rows_told or_told with_lines first_marked first_in printed codes gap_text reach_texts reach_text largest_text line_text numbers_text settings_field_cause start_cause row_fields_cause row_offset call_in tiles_in marks_in row_size marks_field links_in links_below tile_links phases_in drifts_in tile_place late_start times_in settings_in or_else body field_refusal field_cause field_tests big_endian refused_line decimal decimal_in glyph surveyed_of surveyed with_gap with_reach reach_in_row reach_of range_within range_of answer outside_wall reach_ticks gap_of end_within first_within last_within widest_gap gap_below widest apart row_of stamp read_at arrival arrives pulse row_refusal row_cause row_tests over crowded late_time stray_mark lengths_right lengths_are call bad_links bad_link bad_value faulty_among mark_bytes marked any_of table_from link link_place place_in links_before predecessors is_predecessor neighbours columns_from are_neighbours tile_pulse tile_P P heard_correction D least_to larger_at stamp_of latest earliest later earlier natural smaller larger first_tick reads settings_refusal settings_cause settings_tests drift_cost step_of step settings up any_below outside first
printed_cases = (refl, refl, refl, refl)

pub read_cases : ReadCases
unfolding ReadCases last_number read_from is_digit value_of printed codes
read_cases = (refl, refl)
