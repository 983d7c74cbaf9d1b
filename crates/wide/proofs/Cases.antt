-- The cases of specs/Cases.antt, computed. Assumes nothing.
use mathlib.Core.Path.{refl}
use Rattle.settings.specs.Refusal.{first, or_else, answer, outside}
use Rattle.settings.specs.Rounding.{up}
use Rattle.settings.specs.Settings.{settings, drift_cost, settings_tests, settings_cause}
use Rattle.columns.specs.Marks.{marked, mark_bytes}
use Rattle.seam.specs.Seam.{late, joined, seam_of}
use Rattle.places.specs.Seams.{seam_left, seam_right, other_lengths}
use Rattle.wide.specs.Wide.{unsigned, half_ticks, wide_at, if_over, if_wide, seam_first, or_then, first_from, row_first, first_wide}
use Rattle.wide.specs.Cases.{answers, LimitCases, SignCases, OrderCases, LateCases, NumberCases}

pub limit_cases : LimitCases
unfolding LimitCases answers settings settings_cause settings_tests first or_else answer outside drift_cost up other_lengths mark_bytes marked seam_left seam_right seam_of late joined unsigned half_ticks wide_at if_over if_wide seam_first or_then first_from row_first first_wide
limit_cases = (refl, refl)

pub sign_cases : SignCases
unfolding SignCases answers settings settings_cause settings_tests first or_else answer outside drift_cost up other_lengths mark_bytes marked seam_left seam_right seam_of late joined unsigned half_ticks wide_at if_over if_wide seam_first or_then first_from row_first first_wide
sign_cases = (refl, refl)

pub order_cases : OrderCases
unfolding OrderCases answers settings settings_cause settings_tests first or_else answer outside drift_cost up other_lengths mark_bytes marked seam_left seam_right seam_of late joined unsigned half_ticks wide_at if_over if_wide seam_first or_then first_from row_first first_wide
order_cases = (refl, refl, refl, refl, refl, refl)

pub late_cases : LateCases
unfolding LateCases answers settings settings_cause settings_tests first or_else answer outside drift_cost up other_lengths mark_bytes marked seam_left seam_right seam_of late joined unsigned half_ticks wide_at if_over if_wide seam_first or_then first_from row_first first_wide
late_cases = (refl, refl, refl, refl)

pub number_cases : NumberCases
unfolding NumberCases answers settings settings_cause settings_tests first or_else answer outside drift_cost up other_lengths mark_bytes first_wide
number_cases = (refl, refl, refl)
