-- The operations' own contracts are what `CallsRead` goes by: `Post`, which the check makes of the clauses of `start`, `hand_in` and `ask`,
-- is what `Calls` knows of a call. Assumes nothing.
use mathlib.Core.Path.{◌≡◌}
use Rattle.waves.specs.Wave.{wave}
use Rattle.waves.specs.State.{started, handed, asked}
use Rattle.waves.proofs.Waves.start.Reads as start
use Rattle.waves.proofs.Waves.hand_in.Reads as hand_in
use Rattle.waves.proofs.Waves.ask.Reads as ask

pub start_ensured : (κs : _) (a : _) (r : _) (z : _) → start.Post κs a r z → r ≡ started a.0
start_ensured κs a r z p = p

pub hand_in_ensured : (κs : _) (a : _) (r : _) (z : _) → hand_in.Post κs a r z →
    r ≡ handed a.0 (wave a.1.0 a.1.1.0 a.1.1.1.0 a.1.1.1.1.0)
hand_in_ensured κs a r z p = p

pub ask_ensured : (κs : _) (a : _) (r : _) (z : _) → ask.Post κs a r z → r ≡ asked a.0
ask_ensured κs a r z p = p
