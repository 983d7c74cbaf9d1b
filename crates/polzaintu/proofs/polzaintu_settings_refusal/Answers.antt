-- `polzaintu_settings_refusal` meets its contract. Assumes nothing.
use mathlib.Core.Path.{sym, ◌∙◌, ap}
use Rattle.settings.specs.Refusal.{refused}
use Rattle.settings.specs.Settings.{settings_cause, settings_refusal}
use Rattle.settings.proofs.Laws.Refusal.{passed, refused_with}
use Rattle.layout.specs.Words.{settings_from}
use Rattle.polzaintu.proofs.polzaintu_settings_refusal.Goals as goal

pub returns-in-Ok : goal.returns-in-Ok
unfolding settings_refusal
returns-in-Ok c = sym (passed (settings_cause (settings_from 0 c.args.settings.now)) tt (rw c.settings_in.ensures at (sym c.check.ensures ∙ c.in-Ok.is)))

pub returns-in-Err : goal.returns-in-Err
unfolding settings_refusal
returns-in-Err c =
    c.number.ensures
    ∙ sym (ap refused (refused_with (settings_cause (settings_from 0 c.args.settings.now)) tt (rw c.settings_in.ensures at (sym c.check.ensures ∙ c.in-Err.is))))
