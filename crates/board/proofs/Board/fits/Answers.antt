-- `fits` meets its contract: its tests are the definition's. Assumes nothing.
use Rattle.std.proofs.Common.{arith}
use Rattle.std.proofs.lemmas.Grind.{common_steps}
use Rattle.settings.specs.Settings.{settings_cause, settings_refusal}
use Rattle.board.specs.State.{fits}
use Rattle.board.proofs.Laws.State.{checked}
use Rattle.board.proofs.Board.fits.Goals as goal

pub returns-then-fit : goal.returns-then-fit
unfolding fits settings_refusal
returns-then-fit c = grind (arith, common_steps, checked (settings_cause c.args.self.settings))

pub returns-else-fit : goal.returns-else-fit
unfolding fits settings_refusal
returns-else-fit c = grind (arith, common_steps, checked (settings_cause c.args.self.settings))
