-- `steps::settings_in` meets its contract. Assumes nothing.
use mathlib.Core.Path.{sym, ◌∙◌}
use Rattle.settings.specs.Settings.{settings_cause, checked}
use Rattle.settings.proofs.Laws.Refusal.{passed}
use Rattle.fields.specs.Field.{field_cause, field_refusal, body}
use Rattle.contents.specs.Contents.{settings_in}
use Rattle.contents.proofs.Laws.Contents.{body_length}
use Rattle.steps.specs.Number.{settings_field_cause}
use Rattle.steps.proofs.Laws.Handed.{first_handed, second_given}
use Rattle.steps.proofs.steps.settings_in.Goals as goal

pub returns-in_err-check : goal.returns-in_err-check
unfolding settings_field_cause
returns-in_err-check c =
    first_handed (field_cause 1 24 c.args.part.now) _ (tt {0}) _ c.from_residual.result c.from_residual.ensures.1 (sym c.check.ensures ∙ c.in_err-check.was)

pub settings-requires : goal.settings-requires
unfolding field_refusal
settings-requires c = rw c.body.ensures (body_length 1 24 c.args.part.now (passed (field_cause 1 24 c.args.part.now) (tt {0}) (sym c.check.ensures ∙ c.in_ok-check.was)))

pub returns : goal.returns
unfolding settings_field_cause checked
returns c = let bs = c.args.part.now in
    let s = settings_in (body 24 bs) in
    c.settings.ensures ∙ rw c.body.ensures (second_given (field_cause 1 24 bs) (settings_cause s) (tt {0}) s (sym c.check.ensures ∙ c.in_ok-check.was))
