-- `place_of` meets its contract. Assumes nothing.
use mathlib.Core.Path.{◌≡◌, sym, ap}
use Prim.Native.Nat.{◌≤◌}
use borrow.Author.Tests.{lt-ltb, le-ltb}
use native.Mathlib.Omega.{arith}
use Rattle.std.specs.Prelude.{None, Ok}
use Rattle.settings.specs.Refusal.{answer}
use Rattle.settings.specs.Settings.{settings_cause, settings_refusal}
use Rattle.settings.proofs.Laws.Refusal.{none_of, passed, handed_on}
use Rattle.settings.proofs.Laws.Settings.{limits}
use Rattle.places.specs.Links.{link_of}
use Rattle.places.proofs.links.place_of.Goals.{In_ok-check}
use Rattle.places.proofs.links.place_of.Goals as goal

-- the settings are accepted
accepted : (c : In_ok-check) → settings_cause c.args.settings ≡ None
accepted c = none_of _ (passed _ tt (sym c.in_ok-check.ensures))

wide : (c : In_ok-check) → let a = c.args in (6 ≤ a.settings.width) × (a.settings.width ≤ 256)
unfolding settings_refusal
wide c = (limits c.args.settings (passed _ tt (sym c.in_ok-check.ensures))).width

pub returns-in_err-check : goal.returns-in_err-check
unfolding link_of
returns-in_err-check c = handed_on _ _ (tt {0}) _ c.from_residual.ensures.1 (sym c.in_err-check.ensures)

pub returns-then-width-tile : goal.returns-then-width-tile
unfolding link_of answer
returns-then-width-tile c = let a = c.args in
    rw (accepted (goal.at.returns-then-width-tile c).In_ok-check, le-ltb a.tile a.settings.width c.if-width-tile.true)

pub heard-requires : goal.heard-requires
heard-requires c = let w = wide (goal.at.heard-requires c).In_ok-check in (w.0, omega (arith, c.if-width-tile.false), w.1)

pub returns : goal.returns
unfolding link_of answer
returns c = let a = c.args in
    rw (accepted (goal.at.returns c).In_ok-check, lt-ltb a.tile a.settings.width (omega (arith, c.if-width-tile.false))) (ap Ok c.heard.ensures)
