-- `reach_in_row` meets its contract. Assumes nothing.
use mathlib.Core.Path.{◌≡◌, sym, ap, ◌∙◌}
use mathlib.Core.Logic.{inl, inr}
use native.Mathlib.Omega.{arith}
use Rattle.std.specs.Prelude.{Option, Ok}
use Rattle.settings.specs.Settings.{settings_refusal}
use Rattle.settings.proofs.Laws.Refusal.{passed, handed_on}
use Rattle.reach.specs.declared.Range.{Range}
use Rattle.reach.specs.Search.{reach_in_row}
use Rattle.reach.proofs.Laws.Answers.{row_outside, row_within}
use Rattle.reach.proofs.reach_in_row.Goals.{In_ok-check}
use Rattle.reach.proofs.reach_in_row.Goals as goal

-- the settings are accepted
accepted : (c : In_ok-check) → settings_refusal c.args.settings ≡ 0
unfolding settings_refusal
accepted c = passed _ tt (sym c.in_ok-check.ensures)

pub returns-in_err-check : goal.returns-in_err-check
unfolding reach_in_row
returns-in_err-check c = handed_on _ _ (tt {0}) _ c.from_residual.ensures.1 (sym c.in_err-check.ensures)

pub returns-then-later-f : goal.returns-then-later-f
returns-then-later-f c = let a = c.args in
    sym (row_outside a.settings a.gap a.f a.later a.column (accepted (goal.at.returns-then-later-f c).In_ok-check) (inl c.if-later-f.true))

pub returns-then-settings-later : goal.returns-then-settings-later
returns-then-settings-later c = let a = c.args in
    sym (row_outside a.settings a.gap a.f a.later a.column (accepted (goal.at.returns-then-settings-later c).In_ok-check) (inr c.if-settings-later.true))

pub within-requires : goal.within-requires
within-requires c = accepted (goal.at.within-requires c).In_ok-check

pub returns : goal.returns
returns c = let a = c.args in
    ap (λ (r : Option Range). Ok r) c.within.ensures
    ∙ sym (row_within a.settings a.gap a.f a.later a.column (accepted (goal.at.returns c).In_ok-check) (omega (arith, c.if-later-f.false)) (omega (arith, c.if-settings-later.false)))
