-- The cases of specs/Cases.antt, computed. Assumes nothing.
use mathlib.Core.Path.{refl}
use Rattle.settings.specs.Refusal.{first, outside}
use Rattle.settings.specs.Rounding.{up}
use Rattle.settings.specs.Settings.{settings, drift_cost, settings_tests, settings_cause, settings_refusal}
use Rattle.rule.specs.Signed.{natural}
use Rattle.tile.specs.Tile.{silent_at, reading_at, stamp_from, stamp_at, neighbour_places, own_stamp, neighbour_stamps}
use Rattle.columns.specs.Marks.{mark_bytes}
use Rattle.contents.specs.Contents.{marks_field, row_size}
use Rattle.stages.specs.Fit.{place, due_size, passes, due_of, width_of}
use Rattle.layout.specs.Words.{settings_from, at_most, stamp_in, stamps_in, side_word, place_in, staged, wall_in, place_words, wall_words, refused_words, refused_number, takes}
use Rattle.layout.specs.Cases.{Refuses, SettingsCases, StampsCases, SideCases, wall_settings, wall_place, staged_words, WallReadCases, WallWrittenCases, RefusedCases, widest_words, DueCases, TakesCases}

pub settings_cases : SettingsCases
unfolding SettingsCases Refuses settings_from settings settings_refusal settings_cause settings_tests first outside drift_cost up
settings_cases = (refl, refl, refl, refl, refl, refl, refl, refl, refl, refl)

pub stamps_cases : StampsCases
unfolding StampsCases own_stamp neighbour_stamps neighbour_places stamp_at stamp_from silent_at reading_at stamps_in stamp_in at_most natural
stamps_cases = (refl, refl, refl, refl, refl, refl)

pub side_cases : SideCases
unfolding SideCases side_word
side_cases = (refl, refl, refl)

pub wall_read_cases : WallReadCases
unfolding WallReadCases wall_settings wall_place staged_words wall_in staged place_in settings_from settings place
wall_read_cases = (refl, refl, refl, refl, refl)

pub wall_written_cases : WallWrittenCases
unfolding WallWrittenCases wall_settings wall_place staged_words wall_words place_words
wall_written_cases = (refl, refl, refl, refl, refl)

pub refused_cases : RefusedCases
unfolding RefusedCases wall_settings wall_place staged_words refused_words refused_number place_words place
refused_cases = (refl, refl, refl, refl, refl, refl)

pub due_cases : DueCases
unfolding DueCases widest_words wall_in staged place_in settings_from settings place due_of width_of due_size passes settings_refusal settings_cause settings_tests first outside drift_cost up row_size marks_field mark_bytes
due_cases = (refl, refl, refl, refl, refl, refl, refl, refl, refl)

pub takes_cases : TakesCases
unfolding TakesCases takes widest_words wall_in staged place_in settings_from settings place due_of due_size passes settings_refusal settings_cause settings_tests first outside drift_cost up row_size marks_field mark_bytes
takes_cases = (refl, refl, refl, refl, refl, refl, refl, refl, refl)
