-- What `stretch`'s loop keeps: the tiles passed are a plain stretch. Assumes nothing.
use Rattle.columns.specs.Plain.{Plain}
use Rattle.columns.proofs.stretch.Given as goal

abbrev pub invariant-loop-n : goal.invariant-loop-n
invariant-loop-n l = Plain l.width l.marks l.c l.n
