-- What `all_delays`'s loop keeps: the values passed are delays where the bits gathered of them have no top bit. Assumes nothing.
use Rattle.links.proofs.Laws.Delays.{Gathered}
use Rattle.links.proofs.all_delays.Given as goal

abbrev pub invariant-loop-value : goal.invariant-loop-value
invariant-loop-value l = Gathered l.shortest l.longest l.links l.from l.value-index l.bits
