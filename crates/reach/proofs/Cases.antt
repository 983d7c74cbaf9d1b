-- The cases of specs/Cases.antt, computed. Assumes nothing.
use mathlib.Core.Path.{refl}
use Rattle.settings.specs.Refusal.{first, or_else, answer, outside}
use Rattle.settings.specs.Rounding.{up}
use Rattle.settings.specs.Settings.{settings, drift_cost, settings_tests, settings_cause}
use Rattle.columns.specs.Columns.{are_neighbours, columns_from, neighbours}
use Rattle.runs.specs.Reach.{apart, widest, gap_below, widest_gap, reach_ticks}
use Rattle.reach.specs.Span.{end_within, first_within, last_within}
use Rattle.reach.specs.Search.{gap_of, outside_wall, range_of, range_within, reach_of, reach_in_row}
use Rattle.reach.specs.Survey.{surveyed, with_reach, with_gap, surveyed_of, last_reach, largest_of}
use Rattle.reach.specs.Answers.{gap_B, reached_outside, reached_ticks, reached_first, reached_last, surveyed_outside, surveyed_B, surveyed_largest, GapIs, ReachedIs, SurveyedIs}
use Rattle.reach.specs.Cases.{wall, row_80, row_100, Reaches, Outside, WidestCases, GapCases, ReachCases, OutsideCases, SurveyCases, LargestCases}

pub widest_cases : WidestCases
unfolding WidestCases widest_gap gap_below widest apart neighbours columns_from are_neighbours
widest_cases = (
  refl,
  refl,
  refl,
  refl,
)

pub gap_cases : GapCases
unfolding GapCases GapIs gap_B gap_of wall row_80 row_100 widest_gap gap_below widest apart neighbours columns_from are_neighbours settings settings_cause settings_tests first or_else answer outside drift_cost up
gap_cases = (
  (refl, refl),
  (refl, refl),
  (refl, refl),
  (refl, refl),
  (refl, refl),
  (refl, refl),
  (refl, refl),
)

pub reach_cases : ReachCases
unfolding ReachCases Reaches ReachedIs reached_outside reached_ticks reached_first reached_last reach_of range_within range_of outside_wall reach_ticks end_within first_within last_within wall settings settings_cause settings_tests first or_else answer outside drift_cost up
reach_cases = (
  (refl, refl, refl, refl, refl),
  (refl, refl, refl, refl, refl),
  (refl, refl, refl, refl, refl),
  (refl, refl, refl, refl, refl),
  (refl, refl, refl, refl, refl),
  (refl, refl, refl, refl, refl),
  (refl, refl, refl, refl, refl),
  (refl, refl, refl, refl, refl),
  (refl, refl, refl, refl, refl),
  (refl, refl, refl, refl, refl),
)

pub outside_cases : OutsideCases
unfolding OutsideCases Outside reach_in_row ReachedIs reached_outside reached_ticks reached_first reached_last reach_of range_within range_of outside_wall reach_ticks end_within first_within last_within wall settings settings_cause settings_tests first or_else answer outside drift_cost up
outside_cases = (
  (refl, refl, refl, refl, refl),
  (refl, refl, refl, refl, refl),
  (refl, refl, refl, refl, refl),
  (refl, refl, refl, refl, refl),
  (refl, refl, refl, refl, refl),
  (refl, refl, refl, refl, refl),
  (refl, refl, refl, refl, refl),
  (refl, refl, refl, refl, refl),
  (refl, refl, refl, refl, refl),
  (refl, refl, refl, refl, refl),
  (refl, refl, refl, refl, refl),
  (refl, refl, refl, refl, refl),
)

pub survey_cases : SurveyCases
unfolding SurveyCases SurveyedIs surveyed_outside surveyed_B surveyed_largest surveyed_of surveyed with_gap with_reach gap_of wall row_80 row_100 reach_of range_within range_of outside_wall reach_ticks end_within first_within last_within widest_gap gap_below widest apart neighbours columns_from are_neighbours settings settings_cause settings_tests first or_else answer outside drift_cost up
survey_cases = (
  (refl, refl, refl, refl),
  (refl, refl, refl, refl),
  (refl, refl, refl, refl),
  (refl, refl, refl, refl),
  (refl, refl, refl, refl),
  (refl, refl, refl, refl),
)

pub largest_cases : LargestCases
unfolding LargestCases largest_of last_reach reach_ticks wall row_80 row_100 settings widest_gap gap_below widest apart neighbours columns_from are_neighbours
largest_cases = (refl, refl)
