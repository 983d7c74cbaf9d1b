-- The contracts of the operations are what calls of them go by: `Post`, which the check makes of their clauses, is `Stepping` for `step`,
-- and `Takes` for `take`, `take_in`, and `take_fit` of rows that fit, which is what the programs call. Assumes nothing.
use mathlib.Core.Path.{◌≡◌}
use mathlib.Core.Bool.{true}
use lib.ListN.{length}
use Rattle.std.specs.Prelude.{Some}
use Rattle.row.specs.Row.{pulses}
use Rattle.steps.specs.Take.{Takes, all_fit}
use Rattle.steps.proofs.Laws.Taken.{taking}
use Rattle.steps.proofs.take.Reads as take
use Rattle.steps.proofs.take_in.Reads as take_in
use Rattle.steps.proofs.take_fit.Reads as take_fit
use Rattle.wall.specs.Operation.{Stepping}
use Rattle.wall.proofs.step.Reads as step

pub ensured : (κs : _) (a : _) (r : _) (z : _) → step.Post κs a r z →
    Stepping a.0 a.1.0.now (pulses a.1.1.0.now a.1.1.1.0.now) a.1.1.1.1.0.now a.1.1.1.1.1.0 r
    (pulses z.1.1.0.now z.1.1.1.0.now) z.1.1.1.1.0.now
ensured κs a r z p = p

pub take_ensured : (κs : _) (a : _) (r : _) (z : _) → take.Post κs a r z →
    Takes a.0 a.1.0.now a.1.1.0.now (pulses a.1.1.1.0.now a.1.1.1.1.0.now) r (pulses z.1.1.1.0.now z.1.1.1.1.0.now)
take_ensured κs a r z p = p

pub take_in_ensured : (κs : _) (a : _) (r : _) (z : _) → take_in.Post κs a r z →
    Takes a.0 a.1.0.now a.1.1.0.now (pulses a.1.1.1.1.0.now a.1.1.1.1.1.0.now) r
    (pulses z.1.1.1.1.0.now z.1.1.1.1.1.0.now)
take_in_ensured κs a r z p = p

pub take_fit_ensured : (κs : _) (a : _) (r : _) (z : _) → take_fit.Post κs a r z →
    all_fit a.0 (length a.1.1.0.now) (pulses a.1.1.1.1.0.now a.1.1.1.1.1.0.now) ≡ true →
    Takes a.0 a.1.0.now a.1.1.0.now (pulses a.1.1.1.1.0.now a.1.1.1.1.1.0.now) (Some r)
    (pulses z.1.1.1.1.0.now z.1.1.1.1.1.0.now)
take_fit_ensured κs a r z p fit =
    taking a.0 a.1.0.now a.1.1.0.now (pulses a.1.1.1.1.0.now a.1.1.1.1.1.0.now) fit p
