-- Whole rows at numbers, by computing them. Assumes nothing.
use mathlib.Core.Path.{refl}
use Rattle.settings.specs.Refusal.{first, or_else, answer, outside, any_below}
use Rattle.settings.specs.Rounding.{up}
use Rattle.settings.specs.Settings.{settings, settings_cause, settings_tests, drift_cost, step, step_of}
use Rattle.rule.specs.Clock.{reads, first_tick}
use Rattle.rule.specs.Signed.{larger, smaller, natural}
use Rattle.rule.specs.Stamp.{earlier, later, earliest, latest, stamp_of}
use Rattle.rule.specs.Forward.{larger_at, least_to, D, heard_correction, P}
use Rattle.rule.specs.Letter.{early_or_kept, heard_letter, letter}
use Rattle.rule.specs.Pulse.{tile_P, tile_pulse, tile_letter}
use Rattle.columns.specs.Columns.{are_neighbours, columns_from, neighbours, is_predecessor, predecessors, links_before, place_in, link_place, link, table_from, any_of}
use Rattle.columns.specs.Marks.{marked, mark_bytes, faulty_among}
use Rattle.links.specs.Links.{bad_value, bad_link, bad_links}
use Rattle.admission.specs.Call.{call}
use Rattle.admission.specs.Refusal.{lengths_are, lengths_right, stray_mark, late_time, crowded, over, row_tests, row_cause, row_refusal}
use Rattle.admission.specs.Cases.{wall, times, time, drifts, phases, phase, delays, marks}
use Rattle.pulse.specs.Pulse.{arrives, arrival, read_at, stamp, pulse, letter_at}
use Rattle.row.specs.Row.{row_of, letters_of, least_of, most_of, planned, written, lettered}
use Rattle.row.specs.Cases.{Plans, PrintedPlanned, DriftingPlanned, BrokenPlanned, PhasedPlanned, RefusedPlanned}

computed : PrintedPlanned × DriftingPlanned × BrokenPlanned × PhasedPlanned × RefusedPlanned
unfolding PrintedPlanned DriftingPlanned BrokenPlanned PhasedPlanned RefusedPlanned Plans planned written lettered row_of letters_of least_of most_of wall times time drifts phases phase delays marks settings call row_refusal row_cause row_tests first or_else answer outside up settings_cause settings_tests drift_cost any_below any_of mark_bytes lengths_are lengths_right stray_mark late_time faulty_among crowded over bad_value bad_link bad_links table_from pulse letter_at tile_pulse tile_letter letter heard_letter early_or_kept tile_P P heard_correction D least_to larger_at larger smaller natural stamp arrival arrives read_at reads first_tick stamp_of earliest latest earlier later step_of step neighbours are_neighbours columns_from marked link link_place links_before place_in predecessors is_predecessor
computed = ((refl, refl, refl), (refl, refl, refl), (refl, refl, refl), (refl, refl, refl), ((refl, refl, refl), (refl, refl, refl)))

pub printed_planned : PrintedPlanned
printed_planned = computed.0

pub drifting_planned : DriftingPlanned
drifting_planned = computed.1

pub broken_planned : BrokenPlanned
broken_planned = computed.2

pub phased_planned : PhasedPlanned
phased_planned = computed.3

pub refused_planned : RefusedPlanned
refused_planned = computed.4
