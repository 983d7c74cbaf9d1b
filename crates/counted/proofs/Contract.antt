-- The operations' own contracts are what `Calls` goes by: `Post`, which the check makes of the clauses of `start`, `pulse`, `close` and
-- `close_many`, is what it knows of a call. Assumes nothing.
use mathlib.Core.Path.{◌≡◌}
use Rattle.counted.specs.State.{started, pulsed, closed, closed_many}
use Rattle.counted.proofs.Counted.start.Reads as start
use Rattle.counted.proofs.Counted.pulse.Reads as pulse
use Rattle.counted.proofs.Counted.close.Reads as close
use Rattle.counted.proofs.Counted.close_many.Reads as close_many

pub start_ensured : (κs : _) (a : _) (r : _) (z : _) → start.Post κs a r z → r ≡ started a.0 a.1.0 a.1.1.0
start_ensured κs a r z p = p

pub pulse_ensured : (κs : _) (a : _) (r : _) (z : _) → pulse.Post κs a r z → r ≡ pulsed a.0 a.1.0
pulse_ensured κs a r z p = p

pub close_ensured : (κs : _) (a : _) (r : _) (z : _) → close.Post κs a r z → r ≡ closed a.0
close_ensured κs a r z p = p

pub close_many_ensured : (κs : _) (a : _) (r : _) (z : _) → close_many.Post κs a r z → r ≡ closed_many a.0 a.1.0
close_many_ensured κs a r z p = p
