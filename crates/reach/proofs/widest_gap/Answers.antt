-- `widest_gap` meets its contract. Assumes nothing.
use mathlib.Core.Path.{◌≡◌, refl, sym, ◌∙◌, ap}
use Prim.Native.Nat.{ℕ}
use native.Mathlib.Omega.{arith}
use Rattle.std.specs.Prelude.{Some, Ok}
use Rattle.settings.specs.Refusal.{or_else, answer}
use Rattle.settings.specs.Settings.{settings_cause, settings_refusal}
use Rattle.settings.proofs.Laws.Refusal.{passed, refused_with, handed_on}
use Rattle.settings.proofs.Laws.Settings.{limits}
use Rattle.runs.specs.Reach.{widest_gap}
use Rattle.reach.specs.Search.{gap_of}
use Rattle.reach.proofs.Laws.Answers.{gap_unlike, gap_found}
use Rattle.reach.proofs.widest_gap.Goals.{In_ok-check}
use Rattle.reach.proofs.widest_gap.Goals as goal

-- the settings are accepted
accepted : (c : In_ok-check) → settings_refusal c.args.settings ≡ 0
unfolding settings_refusal
accepted c = passed _ tt (sym c.in_ok-check.ensures)

pub returns-in_err-check : goal.returns-in_err-check
unfolding gap_of or_else answer
returns-in_err-check c =
    let e : settings_cause c.args.settings ≡ Some c.in_err-check.field-0.0 = refused_with _ tt (sym c.in_err-check.ensures) in
    handed_on _ _ (tt {0}) _ c.from_residual.ensures.1 (rw e refl)

pub returns-then-row-settings : goal.returns-then-row-settings
returns-then-row-settings c = let a = c.args in
    sym (gap_unlike a.settings a.row.now (accepted (goal.at.returns-then-row-settings c).In_ok-check) c.if-row-settings.true)

pub widest-requires : goal.widest-requires
widest-requires c = let w = (limits c.args.settings (accepted (goal.at.widest-requires c).In_ok-check)).width in
    (omega (arith, w, c.if-row-settings.false), omega (arith, w, c.if-row-settings.false))

pub returns : goal.returns
returns c = let a = c.args in
    ap Ok (c.widest.ensures ∙ ap (λ (w : ℕ). widest_gap w a.row.now) c.if-row-settings.false)
    ∙ sym (gap_found a.settings a.row.now (accepted (goal.at.returns c).In_ok-check) c.if-row-settings.false)
