-- The cases of specs/Cases.antt, computed. Assumes nothing.
use mathlib.Core.Path.{refl}
use Rattle.settings.specs.Refusal.{first, or_else, answer, outside}
use Rattle.settings.specs.Rounding.{up}
use Rattle.settings.specs.Settings.{settings, drift_cost, settings_tests, settings_cause}
use Rattle.columns.specs.Columns.{are_neighbours, columns_from, is_predecessor, predecessors, links_before, place_in, link_place, any_of}
use Rattle.columns.specs.Marks.{marked, mark_bytes}
use Rattle.seam.specs.Seam.{late, joined, seam_of}
use Rattle.places.specs.Seams.{seam_left, seam_right, columns, columns_of, other_lengths, row_seam, between, seam_at}
use Rattle.places.specs.Marks.{mark_of}
use Rattle.places.specs.Links.{hears, heard_at, link_of}
use Rattle.places.specs.Cases.{wall, narrow, ColumnsCases, ColumnsRefused, times, SeamCases, MarkCases, LinkCases}

pub columns_cases : ColumnsCases
unfolding ColumnsCases wall settings settings_cause settings_tests first or_else answer outside drift_cost up columns columns_of seam_left seam_right
columns_cases = refl

pub columns_refused : ColumnsRefused
unfolding ColumnsRefused narrow settings settings_cause settings_tests first or_else answer outside columns_of
columns_refused = refl

pub seam_cases : SeamCases
unfolding SeamCases wall narrow times settings settings_cause settings_tests first or_else answer outside drift_cost up seam_at other_lengths row_seam between mark_bytes marked seam_left seam_right seam_of late joined
seam_cases = (refl, refl, refl, refl, refl, refl)

pub mark_cases : MarkCases
unfolding MarkCases wall narrow settings settings_cause settings_tests first or_else answer outside drift_cost up mark_of mark_bytes marked
mark_cases = (refl, refl, refl, refl)

pub link_cases : LinkCases
unfolding LinkCases wall narrow settings settings_cause settings_tests first or_else answer outside drift_cost up link_of heard_at hears any_of predecessors columns_from is_predecessor are_neighbours link_place links_before place_in
link_cases = (refl, refl, refl, refl, refl)
