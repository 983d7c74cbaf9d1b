-- `settings_from` meets its contract. Assumes nothing.
use mathlib.Core.Path.{refl}
use Rattle.settings.specs.Settings.{settings}
use Rattle.layout.specs.Words.{settings_from}
use Rattle.layout.proofs.settings_from.Goals as goal

pub returns : goal.returns
unfolding settings_from settings
returns c = refl
