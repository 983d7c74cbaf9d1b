-- The cases of specs/Cases.antt and specs/Refusals.antt, computed. Assumes nothing.
use mathlib.Core.Path.{refl}
use lib.Ieee.{to_bits, round}
use Rattle.settings.specs.Refusal.{first, or_else, outside, any_below}
use Rattle.settings.specs.Rounding.{up}
use Rattle.settings.specs.Settings.{settings, settings_cause, settings_refusal, settings_tests, drift_cost, step, step_of}
use Rattle.rule.specs.Clock.{reads, first_tick}
use Rattle.rule.specs.Signed.{larger, smaller, natural}
use Rattle.rule.specs.Stamp.{earlier, later, earliest, latest, stamp_of}
use Rattle.rule.specs.Forward.{larger_at, least_to, D, heard_correction, P}
use Rattle.rule.specs.Letter.{early_or_kept, heard_letter, letter}
use Rattle.rule.specs.Pulse.{tile_P, tile_pulse, tile_letter}
use Rattle.columns.specs.Columns.{are_neighbours, columns_from, neighbours, is_predecessor, predecessors, links_before, place_in, link_place, link, table_from, any_of}
use Rattle.columns.specs.Marks.{marked, mark_bytes, faulty_among}
use Rattle.links.specs.Links.{bad_value, bad_link, bad_links}
use Rattle.admission.specs.Call.{call}
use Rattle.admission.specs.Refusal.{lengths_are, lengths_right, stray_mark, late_time, crowded, over, row_tests, row_cause, row_refusal}
use Rattle.pulse.specs.Pulse.{arrives, arrival, read_at, stamp, pulse, letter_at}
use Rattle.row.specs.Row.{row_of, letters_of}
use Rattle.seam.specs.Seam.{half, halves, late, joined, seam_of}
use Rattle.lines.specs.Number.{glyph, decimal_in, decimal, hexadecimal}
use Rattle.lines.specs.Line.{side_word, t_line, halves_words, open_words, seam_head, seam_line, s_line, refused_line}
use Rattle.lines.specs.Row.{each_below, each_of, right_neighbours, tile_text, seam_text, row_text}
use Rattle.fields.specs.Bytes.{big_endian}
use Rattle.fields.specs.Field.{field_tests, field_cause, field_refusal, body}
use Rattle.contents.specs.Contents.{settings_in, times_in, late_start, tile_place, drifts_in, phases_in, tile_links, links_below, links_in, marks_field, row_size, marks_in, tiles_in, call_in}
use Rattle.steps.specs.Number.{settings_field_cause, start_cause, row_fields_cause, row_offset}
use Rattle.steps.specs.Shown.{row_shown, no_marks, number_shown}
use Rattle.show.specs.Text.{text_of, texts_of}
use Rattle.file.specs.File.{or_shown, rows_shown, start_shown, shown, wall_text}
use Rattle.file.specs.Cases.{codes, printed, put, printed_file, PrintedWhole, ByteMore, faulty_file, first_lines, second_lines, FaultyPrinted, SecondRowRefused, FaultyByteMore}
use Rattle.file.specs.Refusals.{case, changed, cut, fields_refused, settings_refused, row_refused, order_kept, RefusalsMet, latest_start, LatestStartMet, LargestPhaseMet}

-- the definitions that a refusal is computed by, and those of the rows and lines that are shown
unfoldable pub refusing : Unit {0}
unfolding rows_shown start_shown shown or_shown settings_field_cause start_cause row_fields_cause row_offset row_shown no_marks settings_in times_in late_start tile_place drifts_in phases_in tile_links links_below links_in marks_field row_size marks_in tiles_in call_in field_tests field_cause field_refusal body or_else big_endian call lengths_are lengths_right stray_mark late_time crowded over row_tests row_cause row_refusal bad_value bad_link bad_links marked mark_bytes faulty_among are_neighbours columns_from is_predecessor predecessors links_before place_in link_place link table_from any_of settings settings_cause settings_refusal settings_tests drift_cost up first outside any_below put printed_file
refusing = tt

unfoldable pub showing : Unit {0}
unfolding refusing row_of letters_of pulse letter_at stamp arrival arrives read_at reads first_tick tile_pulse tile_letter letter heard_letter early_or_kept tile_P P heard_correction D least_to larger_at larger smaller natural stamp_of earliest latest earlier later step step_of neighbours wall_text texts_of text_of row_text each_below each_of right_neighbours tile_text seam_text t_line s_line seam_line seam_head halves_words open_words side_word refused_line decimal decimal_in hexadecimal glyph seam_of joined late halves half to_bits round codes printed
showing = tt

pub printed_whole : PrintedWhole
unfolding PrintedWhole showing
printed_whole = refl

pub byte_more : ByteMore
unfolding ByteMore showing
byte_more = refl

pub faulty_printed : FaultyPrinted
unfolding FaultyPrinted faulty_file first_lines second_lines showing
faulty_printed = refl

pub second_row_refused : SecondRowRefused
unfolding SecondRowRefused faulty_file showing
second_row_refused = refl

pub faulty_byte_more : FaultyByteMore
unfolding FaultyByteMore faulty_file first_lines showing
faulty_byte_more = refl

pub refusals_met : RefusalsMet
unfolding RefusalsMet case changed cut fields_refused settings_refused row_refused order_kept refusing
refusals_met = refl

pub latest_start_met : LatestStartMet
unfolding LatestStartMet latest_start number_shown refusing
latest_start_met = refl

pub largest_phase_met : LargestPhaseMet
unfolding LargestPhaseMet number_shown refusing
largest_phase_met = refl
