-- `place_in` meets its contract. Assumes nothing.
use Rattle.stages.specs.Fit.{place}
use Rattle.layout.specs.Words.{place_in}
use Rattle.layout.proofs.place_in.Goals as goal

pub returns : goal.returns
unfolding place_in place
returns c = rw c.settings_from.ensures
