-- The cases of specs/Cases.antt, computed. Assumes nothing.
use mathlib.Core.Path.{refl}
use lib.Ieee.{to_bits, round}
use Rattle.settings.specs.Refusal.{first, or_else, answer, outside, any_below}
use Rattle.settings.specs.Rounding.{up}
use Rattle.settings.specs.Settings.{settings, step, step_of, drift_cost, settings_tests, settings_cause}
use Rattle.rule.specs.Signed.{larger, smaller, natural}
use Rattle.rule.specs.Clock.{reads, first_tick}
use Rattle.rule.specs.Stamp.{earlier, later, earliest, latest, stamp_of}
use Rattle.rule.specs.Forward.{larger_at, least_to, D, heard_correction, P, correction}
use Rattle.rule.specs.Letter.{early_or_kept, heard_letter, letter}
use Rattle.rule.specs.Pulse.{tile_P, tile_pulse, tile_letter}
use Rattle.tile.specs.Tile.{silent_at, reading_at, stamp_from, stamp_at, neighbour_places, own_stamp, neighbour_stamps, late_from, late_at, count_silent, silences, stamp_tests, stamp_cause, tile_tests, tile_cause, answered, forwarded}
use Rattle.seam.specs.Seam.{half, halves, late, joined, seam_of}
use Rattle.columns.specs.Columns.{are_neighbours, columns_from, neighbours, is_predecessor, predecessors, links_before, place_in as place_of, link_place, link, table_from, any_of}
use Rattle.columns.specs.Marks.{marked, mark_bytes, faulty_among}
use Rattle.links.specs.Links.{bad_value, bad_link, bad_links}
use Rattle.admission.specs.Call.{call}
use Rattle.admission.specs.Refusal.{lengths_are, lengths_right, stray_mark, late_time, crowded, over, row_tests, row_cause, row_refusal}
use Rattle.pulse.specs.Pulse.{arrives, arrival, read_at, stamp, pulse, letter_at}
use Rattle.row.specs.Row.{row_of, letters_of, least_of, most_of, planned, written, lettered}
use Rattle.runs.specs.Reach.{apart, widest, gap_below, widest_gap, reach_ticks}
use Rattle.reach.specs.Span.{end_within, first_within, last_within}
use Rattle.reach.specs.Search.{gap_of, outside_wall, range_of, range_within, reach_of, reach_in_row}
use Rattle.reach.specs.Survey.{surveyed, with_reach, with_gap, surveyed_of}
use Rattle.places.specs.Seams.{seam_left, seam_right, columns, columns_of, other_lengths, row_seam, between, seam_at}
use Rattle.places.specs.Marks.{mark_of}
use Rattle.places.specs.Links.{hears, heard_at, link_of}
use Rattle.layout.specs.Words.{settings_from, at_most, stamp_in, stamps_in, side_word}
use Rattle.calls.specs.Answers.{left, left_within, number_within, forwarded_left, ends_left, side_left, halves_left, gap_left, reach_number, reach_left, survey_number, survey_left, columns_number, columns_left, row_seam_number, row_seam_columns, row_seam_side, row_seam_halves, mark_number, mark_left, link_number, link_left, wide_found, wide_left}
use Rattle.wide.specs.Wide.{unsigned, half_ticks, wide_at, if_over, if_wide, seam_first, or_then, first_from, row_first, first_wide}
use Rattle.calls.specs.Cases.{wall_settings, Tile, TileCases, row_0, Planned, RowCases, held_halves, Seam, SeamCases, Widest, WidestCases, Range, RangeCases, RangeInRow, RangeInRowCases, Survey, SurveyCases, SeamColumns, SeamColumnsCases, row_1, RowSeam, RowSeamCases, Marked, MarkCases, LinkAt, LinkCases, FirstWide, FirstWideCases}

pub tile_cases : TileCases
unfolding TileCases Tile wall_settings settings_from settings settings_cause settings_tests first or_else answer outside drift_cost up stamps_in stamp_in at_most forwarded_left left forwarded tile_cause tile_tests stamp_cause stamp_tests any_below late_at late_from silences count_silent answered own_stamp neighbour_stamps neighbour_places stamp_at stamp_from silent_at reading_at natural letter heard_letter early_or_kept P correction heard_correction D least_to larger_at larger smaller earliest latest earlier later step_of step
tile_cases = ((refl, refl), (refl, refl), (refl, refl), (refl, refl), (refl, refl), (refl, refl), (refl, refl), (refl, refl), (refl, refl), (refl, refl))

pub row_cases : RowCases
unfolding RowCases Planned row_0 wall_settings settings_from settings settings_cause settings_tests first or_else answer outside drift_cost up call planned written lettered ends_left left least_of most_of row_refusal row_cause row_tests any_below any_of mark_bytes lengths_are lengths_right stray_mark late_time faulty_among crowded over bad_value bad_link bad_links marked link link_place links_before place_of predecessors is_predecessor are_neighbours columns_from neighbours row_of letters_of table_from pulse letter_at tile_pulse tile_letter letter heard_letter early_or_kept tile_P P heard_correction D least_to larger_at larger smaller natural stamp arrival arrives read_at reads first_tick stamp_of earliest latest earlier later step_of step
row_cases = ((refl, refl, refl, refl), (refl, refl, refl, refl), (refl, refl, refl, refl))

pub seam_cases : SeamCases
unfolding SeamCases Seam held_halves side_left halves_left side_word seam_of late joined halves half to_bits round
seam_cases = ((refl, refl, refl), (refl, refl, refl), (refl, refl, refl), (refl, refl, refl), (refl, refl, refl))

pub widest_cases : WidestCases
unfolding WidestCases Widest wall_settings settings_from settings settings_cause settings_tests first or_else answer outside drift_cost up gap_left left gap_of widest_gap gap_below widest apart neighbours columns_from are_neighbours
widest_cases = ((refl, refl), (refl, refl))

pub range_cases : RangeCases
unfolding RangeCases Range wall_settings settings_from settings settings_cause settings_tests first or_else answer outside drift_cost up reach_number number_within reach_left left_within range_within range_of reach_of outside_wall reach_ticks end_within first_within last_within
range_cases = ((refl, refl), (refl, refl), (refl, refl))

pub range_in_row_cases : RangeInRowCases
unfolding RangeInRowCases RangeInRow wall_settings settings_from settings settings_cause settings_tests first or_else answer outside drift_cost up reach_number number_within reach_left left_within range_within range_of reach_in_row reach_of outside_wall reach_ticks end_within first_within last_within
range_in_row_cases = ((refl, refl), (refl, refl))

pub survey_cases : SurveyCases
unfolding SurveyCases Survey row_0 wall_settings settings_from settings settings_cause settings_tests first or_else answer outside drift_cost up survey_number number_within survey_left left_within surveyed surveyed_of with_gap with_reach range_within range_of gap_of widest_gap gap_below widest apart neighbours columns_from are_neighbours reach_of outside_wall reach_ticks end_within first_within last_within
survey_cases = ((refl, refl), (refl, refl), (refl, refl))

pub seam_columns_cases : SeamColumnsCases
unfolding SeamColumnsCases SeamColumns wall_settings settings_from settings settings_cause settings_tests first or_else answer outside drift_cost up columns_number number_within columns_left left_within columns columns_of seam_left seam_right
seam_columns_cases = ((refl, refl), (refl, refl), (refl, refl))

pub row_seam_cases : RowSeamCases
unfolding RowSeamCases RowSeam row_1 held_halves wall_settings settings_from settings settings_cause settings_tests first or_else answer outside drift_cost up row_seam_number row_seam_columns row_seam_side row_seam_halves left side_left halves_left side_word seam_at other_lengths row_seam between seam_left seam_right mark_bytes marked seam_of late joined halves half to_bits round
row_seam_cases = ((refl, refl, refl, refl), (refl, refl, refl, refl), (refl, refl, refl, refl), (refl, refl, refl, refl), (refl, refl, refl, refl))

pub mark_cases : MarkCases
unfolding MarkCases Marked wall_settings settings_from settings settings_cause settings_tests first or_else answer outside drift_cost up mark_number number_within mark_left left_within mark_of mark_bytes marked
mark_cases = ((refl, refl), (refl, refl), (refl, refl))

pub link_cases : LinkCases
unfolding LinkCases LinkAt wall_settings settings_from settings settings_cause settings_tests first or_else answer outside drift_cost up link_number number_within link_left left_within link_of heard_at hears any_of predecessors columns_from is_predecessor are_neighbours link_place links_before place_of
link_cases = ((refl, refl), (refl, refl), (refl, refl))

pub first_wide_cases : FirstWideCases
unfolding FirstWideCases FirstWide wall_settings settings_from settings settings_cause settings_tests first or_else answer outside drift_cost up wide_found wide_left left_within first_wide other_lengths mark_bytes marked seam_left seam_right seam_of late joined unsigned half_ticks wide_at if_over if_wide seam_first or_then first_from row_first
first_wide_cases = ((refl, refl, refl), (refl, refl, refl), (refl, refl, refl), (refl, refl, refl))
