-- No column passed is marked.
use Rattle.std.proofs.Common.{◌≡◌, ◌-◌}
use Rattle.telling.specs.Telling.{first_in}
use Rattle.telling.proofs.first_marked.Given as goal

abbrev pub invariant-loop-c : goal.invariant-loop-c
invariant-loop-c l = first_in (l.width - l.c) l.c l.marks ≡ first_in l.width 0 l.marks
