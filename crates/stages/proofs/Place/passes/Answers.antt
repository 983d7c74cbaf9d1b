-- `Place::passes` meets its contract. Assumes nothing.
use mathlib.Core.Path.{◌∙◌, ap}
use Rattle.std.specs.Prelude.{is_ok}
use Rattle.stages.proofs.Laws.{checked_again}
use Rattle.stages.proofs.Place.passes.Goals as goal

pub returns : goal.returns
returns c = c.is_ok.ensures.value ∙ ap is_ok c.check.ensures ∙ checked_again c.args.self
