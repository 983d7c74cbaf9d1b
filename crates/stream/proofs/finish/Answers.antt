-- `finish` meets its contract. Assumes nothing.
use mathlib.Core.Path.{refl}
use Rattle.stream.specs.State.{finished}
use Rattle.stream.proofs.finish.Goals as goal

pub returns-then-left-ne0 : goal.returns-then-left-ne0
unfolding finished
returns-then-left-ne0 g c = refl

pub returns : goal.returns
unfolding finished
returns g c = rw c.if-left-ne0.false
