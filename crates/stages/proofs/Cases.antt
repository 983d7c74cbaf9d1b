-- The cases of specs/Cases.antt, computed. Assumes nothing.
use mathlib.Core.Path.{refl}
use Rattle.settings.specs.Refusal.{first, outside}
use Rattle.settings.specs.Rounding.{up}
use Rattle.settings.specs.Settings.{drift_cost, settings_tests, settings_cause, settings_refusal}
use Rattle.columns.specs.Marks.{mark_bytes}
use Rattle.contents.specs.Contents.{marks_field, row_size}
use Rattle.stages.specs.Fit.{due_size, passes, due_of, width_of, place_fits, wall_fits}
use Rattle.stages.specs.Cases.{placed, DueMet, WidthMet, FitMet}

pub due_met : DueMet
unfolding DueMet placed due_of due_size passes settings_refusal settings_cause settings_tests first outside drift_cost up row_size marks_field mark_bytes
due_met = (refl, refl, refl, refl, refl, refl, refl)

pub width_met : WidthMet
unfolding WidthMet placed width_of passes settings_refusal settings_cause settings_tests first outside drift_cost up
width_met = (refl, refl, refl, refl, refl, refl)

pub fit_met : FitMet
unfolding FitMet placed wall_fits place_fits passes settings_refusal settings_cause settings_tests first outside drift_cost up
fit_met = (refl, refl, refl, refl, refl)
