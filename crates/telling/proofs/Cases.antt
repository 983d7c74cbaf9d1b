-- The cases of specs/Cases.antt, computed. Assumes nothing.
use mathlib.Core.Path.{refl}
use Rattle.settings.specs.Refusal.{first, or_else, answer, outside}
use Rattle.settings.specs.Rounding.{up}
use Rattle.settings.specs.Settings.{settings, drift_cost, settings_tests, settings_cause}
use Rattle.columns.specs.Columns.{are_neighbours, columns_from, neighbours}
use Rattle.columns.specs.Marks.{marked}
use Rattle.runs.specs.Reach.{apart, widest, gap_below, widest_gap, reach_ticks}
use Rattle.reach.specs.Span.{end_within, first_within, last_within}
use Rattle.reach.specs.Search.{gap_of, outside_wall, range_of, range_within, reach_of, reach_in_row}
use Rattle.reach.specs.Survey.{surveyed, with_reach, with_gap, surveyed_of}
use Rattle.lines.specs.Number.{glyph, decimal_in, decimal}
use Rattle.lines.specs.Line.{refused_line, numbers_text, line_text}
use Rattle.fields.specs.Field.{field_tests, field_cause}
use Rattle.stages.specs.Fit.{place}
use Rattle.steps.specs.Number.{settings_field_cause}
use Rattle.steps.specs.Shown.{row_shown}
use Rattle.steps.specs.Step.{stepped, away, unless, settings_step, end_step, step_of}
use Rattle.steps.specs.Take.{refused_at, taken, taken_of}
use Rattle.search_lines.specs.Text.{largest_text, reach_text, reach_texts, gap_text}
use Rattle.file.specs.Cases.{codes, printed}
use Rattle.told.specs.Telling.{says}
use Rattle.telling.specs.Telling.{first_in, first_marked, survey_says, row_says, step_says, taken_says, telling}
use Rattle.telling.specs.Cases.{MarkedCases, at_row, row_0, RowCases, EndCases}

pub marked_cases : MarkedCases
unfolding MarkedCases first_marked first_in marked
marked_cases = (refl, refl, refl, refl)

pub row_cases : RowCases
unfolding RowCases at_row row_0 place settings says row_says survey_says first_marked first_in marked surveyed surveyed_of with_gap with_reach gap_of widest_gap gap_below widest apart neighbours columns_from are_neighbours settings_cause settings_tests first or_else answer outside drift_cost up reach_in_row reach_of range_within range_of outside_wall reach_ticks end_within first_within last_within gap_text reach_texts reach_text line_text numbers_text decimal decimal_in glyph printed codes
row_cases = (refl, refl, refl)

pub end_cases : EndCases
unfolding EndCases at_row place settings says telling taken_says taken_of taken refused_at step_says step_of settings_step end_step stepped away unless settings_field_cause field_cause field_tests first or_else row_shown refused_line largest_text decimal decimal_in glyph printed codes
end_cases = (refl, refl, refl)
