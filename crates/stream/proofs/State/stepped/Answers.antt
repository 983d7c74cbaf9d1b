-- `stepped` meets its contract. Assumes nothing.
use Rattle.stream.specs.State.{stepped}
use Rattle.stream.proofs.State.stepped.Goals as goal

pub returns : goal.returns
unfolding stepped
returns c = let stop = c.requires in cc
