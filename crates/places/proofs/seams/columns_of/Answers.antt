-- `columns_of` meets its contract. Assumes nothing.
use mathlib.Core.Path.{◌≡◌, sym}
use Prim.Native.Nat.{◌≤◌}
use borrow.Author.Tests.{lt-ltb, le-ltb}
use Rattle.std.specs.Prelude.{None}
use Rattle.settings.specs.Refusal.{answer}
use Rattle.settings.specs.Settings.{settings_cause, settings_refusal}
use Rattle.settings.proofs.Laws.Refusal.{none_of, passed, handed_on}
use Rattle.settings.proofs.Laws.Settings.{limits}
use Rattle.places.specs.Seams.{columns, columns_of}
use Rattle.places.proofs.seams.columns_of.Goals.{In_ok-check}
use Rattle.places.proofs.seams.columns_of.Goals as goal

-- the settings are accepted
accepted : (c : In_ok-check) → settings_cause c.args.settings ≡ None
accepted c = none_of _ (passed _ tt (sym c.in_ok-check.ensures))

wide : (c : In_ok-check) → let a = c.args in (6 ≤ a.settings.width) × (a.settings.width ≤ 256)
unfolding settings_refusal
wide c = (limits c.args.settings (passed _ tt (sym c.in_ok-check.ensures))).width

pub returns-in_err-check : goal.returns-in_err-check
unfolding columns_of
returns-in_err-check c = handed_on _ _ (tt {0}) _ c.from_residual.ensures.1 (sym c.in_err-check.ensures)

pub returns-then-width-i : goal.returns-then-width-i
unfolding columns_of answer
returns-then-width-i c = let a = c.args in
    rw (accepted (goal.at.returns-then-width-i c).In_ok-check, lt-ltb a.settings.width a.i c.if-width-i.true)

pub left-requires : goal.left-requires
left-requires c = let w = wide (goal.at.left-requires c).In_ok-check in (w.0, w.1, c.if-width-i.false)

pub right-requires : goal.right-requires
right-requires c = let w = wide (goal.at.right-requires c).In_ok-check in (w.0, w.1, c.if-width-i.false)

pub returns : goal.returns
unfolding columns_of columns answer
returns c = let a = c.args in
    rw (accepted (goal.at.returns c).In_ok-check, le-ltb a.settings.width a.i c.if-width-i.false, c.left.ensures.is, c.right.ensures.is)
