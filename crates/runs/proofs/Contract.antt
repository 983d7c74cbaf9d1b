-- The row operation's own contract is what `ProgramOneFault` goes by: `Post`, which the check makes of the clauses of
-- `plan`, is `Ensured`. Assumes nothing.
use Rattle.row.specs.Row.{pulses}
use Rattle.runs.specs.Program.{Ensured}
use Rattle.row.proofs.plan.Reads as plan

pub ensured : (κs : _) (a : _) (r : _) (z : _) → plan.Post κs a r z →
    Ensured a.0 a.1.0.now a.1.1.0.now a.1.1.1.0.now a.1.1.1.1.0.now a.1.1.1.1.1.0.now
    (pulses a.1.1.1.1.1.1.0.now a.1.1.1.1.1.1.1.0.now) r (pulses z.1.1.1.1.1.1.0.now z.1.1.1.1.1.1.1.0.now)
ensured κs a r z p = record { answered = p.0; wrote = p.1.0; letters = p.1.1 }
