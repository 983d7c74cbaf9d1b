-- `reach` meets its contract. Assumes nothing.
use mathlib.Core.Path.{◌≡◌, sym, ap, ◌∙◌}
use Rattle.std.specs.Prelude.{Option, Ok}
use Rattle.settings.specs.Settings.{settings_refusal}
use Rattle.settings.proofs.Laws.Refusal.{passed, handed_on}
use Rattle.reach.specs.declared.Range.{Range}
use Rattle.reach.specs.Search.{reach_of}
use Rattle.reach.proofs.Laws.Answers.{reach_within}
use Rattle.reach.proofs.reach.Goals.{In_ok-check}
use Rattle.reach.proofs.reach.Goals as goal

-- the settings are accepted
accepted : (c : In_ok-check) → settings_refusal c.args.settings ≡ 0
unfolding settings_refusal
accepted c = passed _ tt (sym c.in_ok-check.ensures)

pub returns-in_err-check : goal.returns-in_err-check
unfolding reach_of
returns-in_err-check c = handed_on _ _ (tt {0}) _ c.from_residual.ensures.1 (sym c.in_err-check.ensures)

pub within-requires : goal.within-requires
within-requires c = accepted c

pub returns : goal.returns
returns c = let a = c.args in
    ap (λ (r : Option Range). Ok r) c.within.ensures ∙ sym (reach_within a.settings a.gap a.rows a.column (accepted (goal.at.returns c).In_ok-check))
