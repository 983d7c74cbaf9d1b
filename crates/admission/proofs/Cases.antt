-- Row calls at numbers, by computing what they are turned away with. Assumes nothing.
use mathlib.Core.Path.{refl}
use Rattle.settings.specs.Refusal.{first, or_else, outside, any_below}
use Rattle.settings.specs.Rounding.{up}
use Rattle.settings.specs.Settings.{settings, settings_cause, settings_tests, drift_cost}
use Rattle.columns.specs.Columns.{are_neighbours, columns_from, is_predecessor, predecessors, links_before, place_in, link_place, link, any_of}
use Rattle.columns.specs.Marks.{marked, mark_bytes, faulty_among}
use Rattle.links.specs.Links.{bad_value, bad_link, bad_links}
use Rattle.admission.specs.Call.{call}
use Rattle.admission.specs.Refusal.{lengths_are, lengths_right, stray_mark, late_time, crowded, over, row_tests, row_cause, row_refusal}
use Rattle.admission.specs.Cases.{case, wall, times, time, drifts, drift, phases, phase, delays, value, marks, lengths, strays, late_times, crowds, fast_clocks, phase_limits, links, order, found, Met, RefusalsMet}

pub refusals_met : RefusalsMet
unfolding RefusalsMet Met found case wall times time drifts drift phases phase delays value marks lengths strays late_times crowds fast_clocks phase_limits links order settings call row_refusal row_cause row_tests first or_else outside up settings_cause settings_tests drift_cost any_below any_of mark_bytes lengths_are lengths_right stray_mark late_time faulty_among crowded over bad_value bad_link bad_links marked link link_place links_before place_in predecessors is_predecessor are_neighbours columns_from
refusals_met = (refl, refl, refl, refl, refl, refl, refl, refl)
