-- The cases of specs/Cases.antt, computed. Assumes nothing.
use mathlib.Core.Path.{refl}
use Rattle.settings.specs.Refusal.{first, or_else, answer, outside}
use Rattle.settings.specs.Rounding.{up}
use Rattle.settings.specs.Settings.{settings, drift_cost, settings_tests, settings_cause}
use Rattle.runs.specs.Reach.{reach_ticks}
use Rattle.reach.specs.Span.{end_within, first_within, last_within}
use Rattle.reach.specs.Search.{outside_wall, range_of, range_within, reach_of, reach_in_row}
use Rattle.lines.specs.Number.{glyph, decimal_in, decimal}
use Rattle.file.specs.Cases.{codes, printed}
use Rattle.lines.specs.Line.{numbers_text, line_text}
use Rattle.search_lines.specs.Text.{largest_text, reach_text, reach_texts, gap_text}
use Rattle.search_lines.specs.Cases.{wall, LineCases}

pub line_cases : LineCases
unfolding LineCases wall settings settings_cause settings_tests first or_else answer outside drift_cost up reach_in_row reach_of range_within range_of outside_wall reach_ticks end_within first_within last_within gap_text reach_texts reach_text largest_text line_text numbers_text decimal decimal_in glyph printed codes
line_cases = (refl, refl, refl, refl, refl, refl)
