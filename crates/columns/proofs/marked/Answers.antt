-- `marked` meets its contract: it is the definition. Assumes nothing.
use mathlib.Core.Path.{refl}
use Rattle.columns.specs.Marks.{marked}
use Rattle.columns.proofs.marked.Goals as goal

pub returns : goal.returns
unfolding marked
returns c = refl
