-- `correct` meets its contract: the stamps are those of three links, and the pulse that of two neighbours. Assumes nothing.
use Rattle.pulse.specs.Plain.{correct_pulse}
use Rattle.pulse.proofs.correct.Goals as goal

pub returns : goal.returns
unfolding correct_pulse
returns c = rw (c.min.ensures, c.max.ensures, c.received-a.ensures, c.received-own.ensures, c.received-b.ensures) at c.by_ends.ensures
