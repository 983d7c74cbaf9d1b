-- `mark_of` meets its contract. Assumes nothing.
use mathlib.Core.Path.{◌≡◌, refl, sym, ap}
use Prim.Native.Nat.{◌≤◌}
use borrow.Author.Tests.{eq-eqb, ne_eqb, lt-ltb, le-ltb}
use native.Mathlib.Omega.{arith}
use Rattle.std.specs.Prelude.{Some, None, Ok, Bool}
use Rattle.settings.specs.Refusal.{first, or_else, answer}
use Rattle.settings.specs.Settings.{settings_cause, settings_refusal}
use Rattle.settings.proofs.Laws.Refusal.{none_of, passed, refused_with, handed_on}
use Rattle.settings.proofs.Laws.Settings.{limits}
use Rattle.columns.specs.Marks.{mark_bytes}
use Rattle.places.specs.Marks.{mark_of}
use Rattle.places.proofs.marks.mark_of.Goals.{In_ok-check}
use Rattle.places.proofs.marks.mark_of.Goals as goal

-- the settings are accepted
accepted : (c : In_ok-check) → settings_cause c.args.settings ≡ None
accepted c = none_of _ (passed _ tt (sym c.in_ok-check.ensures))

wide : (c : In_ok-check) → let a = c.args in (6 ≤ a.settings.width) × (a.settings.width ≤ 256)
unfolding settings_refusal
wide c = (limits c.args.settings (passed _ tt (sym c.in_ok-check.ensures))).width

pub returns-in_err-check : goal.returns-in_err-check
unfolding mark_of or_else answer
returns-in_err-check c =
    let e : settings_cause c.args.settings ≡ Some c.in_err-check.field-0.0 = refused_with _ tt (sym c.in_err-check.ensures) in
    handed_on _ _ (tt {0}) _ c.from_residual.ensures.1 (rw e refl)

pub overflow_add-width : goal.overflow_add-width
overflow_add-width c = omega (arith, wide c)

pub returns-then-marks-width : goal.returns-then-marks-width
unfolding mark_of mark_bytes first or_else answer
returns-then-marks-width c = rw (accepted (goal.at.returns-then-marks-width c).In_ok-check, ne_eqb _ _ c.if-marks-width.true)

pub returns-then-width-column : goal.returns-then-width-column
unfolding mark_of mark_bytes first or_else answer
returns-then-width-column c = let a = c.args in
    rw (accepted (goal.at.returns-then-width-column c).In_ok-check, eq-eqb _ _ c.if-marks-width.false, le-ltb a.column a.settings.width c.if-width-column.true)

pub returns : goal.returns
unfolding mark_of mark_bytes first or_else answer
returns c = let a = c.args in
    rw (accepted (goal.at.returns c).In_ok-check, eq-eqb _ _ c.if-marks-width.false, lt-ltb a.column a.settings.width (omega (arith, c.if-width-column.false)))
    (ap (λ (b : Bool). Ok (Some b)) c.marked.ensures)
