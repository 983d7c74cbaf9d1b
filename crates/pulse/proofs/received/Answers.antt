-- `received` meets its contract: it is the reading at the arrival. Assumes nothing.
use Rattle.pulse.specs.Plain.{received}
use Rattle.pulse.proofs.received.Goals as goal

pub returns : goal.returns
unfolding received
returns c = c.reading.ensures
