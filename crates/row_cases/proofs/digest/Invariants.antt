-- The digest is a remainder. Assumes nothing.
use Rattle.std.proofs.Common.{◌<◌}
use Rattle.row_cases.proofs.digest.Given as goal

abbrev pub invariant-loop-c : goal.invariant-loop-c
invariant-loop-c l = l.digest < 4294967291
