-- `check` meets its contract: the settings' refusal, then each test that was passed does not apply. Assumes nothing.
use mathlib.Core.Path.{◌≡◌, refl, sym}
use native.Mathlib.Omega.{arith}
use Rattle.std.proofs.Common.{rules}
use Rattle.std.proofs.lemmas.Grind.{common_steps}
use Rattle.std.specs.Prelude.{Some, None}
use Rattle.settings.specs.Refusal.{first, or_else, answer}
use Rattle.settings.specs.Settings.{settings_cause, settings_refusal}
use Rattle.settings.proofs.Laws.Refusal.{none_of, no_number, passed, refused_with, handed_on}
use Rattle.settings.proofs.Laws.Settings.{Limits, limits}
use Rattle.columns.specs.Marks.{mark_bytes}
use Rattle.admission.specs.Call.{call}
use Rattle.admission.specs.Refusal.{lengths_are, lengths_right, row_tests, row_cause}
use Rattle.admission.proofs.check.Goals.{In_ok-check}
use Rattle.admission.proofs.check.Goals as goal

-- the settings are accepted
accepted : (c : In_ok-check) → settings_cause c.args.settings ≡ None
accepted c = none_of _ (passed _ tt (sym c.in_ok-check.ensures))

allowed : (c : In_ok-check) → Limits c.args.settings
unfolding settings_refusal
allowed c = limits c.args.settings (no_number _ (accepted c))

pub returns-in_err-check : goal.returns-in_err-check
unfolding row_cause or_else answer
returns-in_err-check c =
    let e : settings_cause c.args.settings ≡ Some c.in_err-check.field-0.0 = refused_with _ tt (sym c.in_err-check.ensures) in
    handed_on _ _ (tt {0}) tt c.from_residual.ensures.1 (rw e refl)

pub returns-then-before-width : goal.returns-then-before-width
unfolding row_cause row_tests call first or_else answer lengths_right lengths_are mark_bytes
returns-then-before-width c = rw (accepted (goal.at.returns-then-before-width c).In_ok-check) (grind (arith, common_steps))

pub stray_mark-requires : goal.stray_mark-requires
unfolding mark_bytes
stray_mark-requires c = let k = allowed (goal.at.stray_mark-requires c).In_ok-check in (k.width.1, omega (arith, c.div_ceil.ensures))

pub returns-then-stray_mark : goal.returns-then-stray_mark
unfolding row_cause row_tests call lengths_right lengths_are mark_bytes first or_else answer
returns-then-stray_mark c = rw (accepted (goal.at.returns-then-stray_mark c).In_ok-check) (search rules)

pub late_time-requires : goal.late_time-requires
unfolding mark_bytes
late_time-requires c = omega (arith, c.div_ceil.ensures)

pub returns-then-late_time : goal.returns-then-late_time
unfolding row_cause row_tests call lengths_right lengths_are mark_bytes first or_else answer
returns-then-late_time c = rw (accepted (goal.at.returns-then-late_time c).In_ok-check) (search rules)

pub crowded-requires : goal.crowded-requires
unfolding mark_bytes
crowded-requires c = let k = allowed (goal.at.crowded-requires c).In_ok-check in (k.width.0, k.width.1, omega (arith, c.div_ceil.ensures))

pub returns-then-crowded : goal.returns-then-crowded
unfolding row_cause row_tests call lengths_right lengths_are mark_bytes first or_else answer
returns-then-crowded c = rw (accepted (goal.at.returns-then-crowded c).In_ok-check) (search rules)

pub returns-then-any_over : goal.returns-then-any_over
unfolding row_cause row_tests call lengths_right lengths_are mark_bytes first or_else answer
returns-then-any_over c = rw (accepted (goal.at.returns-then-any_over c).In_ok-check) (search rules)

pub returns-then-any_over-2 : goal.returns-then-any_over-2
unfolding row_cause row_tests call lengths_right lengths_are mark_bytes first or_else answer
returns-then-any_over-2 c = rw (accepted (goal.at.returns-then-any_over-2 c).In_ok-check) (search rules)

pub any_bad_links-requires : goal.any_bad_links-requires
unfolding settings_refusal mark_bytes
any_bad_links-requires c = (no_number _ (accepted (goal.at.any_bad_links-requires c).In_ok-check), refl, omega (arith, c.div_ceil.ensures), c.if-links-width.false)

pub returns-then-any_bad_links : goal.returns-then-any_bad_links
unfolding row_cause row_tests call lengths_right lengths_are mark_bytes first or_else answer
returns-then-any_bad_links c = rw (accepted (goal.at.returns-then-any_bad_links c).In_ok-check) (search rules)

pub returns : goal.returns
unfolding row_cause row_tests call lengths_right lengths_are mark_bytes first or_else answer
returns c = rw (accepted (goal.at.returns c).In_ok-check) (search rules)
