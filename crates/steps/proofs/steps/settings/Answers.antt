-- `steps::settings` meets its contract. Assumes nothing.
use mathlib.Core.Path.{◌≡◌, sym, ◌∙◌, ap}
use mathlib.Core.List.{[]}
use borrow.Author.Rules.{rules}
use Rattle.stages.specs.Fit.{place}
use Rattle.fields.specs.Field.{body}
use Rattle.contents.specs.Contents.{settings_in}
use Rattle.settings.proofs.Laws.Refusal.{no_number}
use Rattle.steps.specs.Number.{settings_field_cause, settings_number}
use Rattle.steps.specs.Take.{taken_of, refused_at}
use Rattle.steps.proofs.Laws.Taken.{settings_away, settings_goes, taken_away, taken_on, none_taken}
use Rattle.steps.proofs.Laws.Handed.{at_offset, given_offset, away_at, on_at}
use Rattle.steps.proofs.steps.settings.Goals.{After-map_err}
use Rattle.steps.proofs.steps.settings.Goals as goal

-- what is made of the settings' answer
made : (c : After-map_err) → let bs = c.args.part.now in c.map_err.result ≡ at_offset (settings_field_cause bs) 0 (settings_in (body 24 bs))
unfolding refused_at
made c = given_offset _ _ 0 c.map_err.result _ (λ e d k. search rules) c.settings_in.ensures c.map_err.ensures.cases

pub returns-in_err-settings : goal.returns-in_err-settings
returns-in_err-settings c row = let bs = c.args.part.now in
    let a = away_at (settings_field_cause bs) _ 0 c.from_residual.result c.from_residual.ensures.1 c.in_err-settings.was (made (goal.at.returns-in_err-settings c).After-map_err) in
    a.2 ∙ sym (ap taken_of (settings_away row bs a.1) ∙ taken_away row row a.0 0)

pub returns : goal.returns
unfolding place settings_number
returns c row = let bs = c.args.part.now in
    let a = on_at (settings_field_cause bs) _ 0 c.in_ok-settings.was (made (goal.at.returns c).After-map_err) in
    rw a.1 (sym (ap taken_of (settings_goes row bs (no_number _ a.0)) ∙ taken_on row row _ [] (none_taken _)))
