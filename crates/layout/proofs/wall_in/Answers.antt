-- `wall_in` meets its contract. Assumes nothing.
use mathlib.Core.Path.{◌∙◌}
use Rattle.layout.specs.Words.{wall_in}
use Rattle.layout.proofs.wall_in.Goals as goal

pub returns : goal.returns
unfolding wall_in
returns c = c.staged.ensures ∙ rw c.place_in.ensures
