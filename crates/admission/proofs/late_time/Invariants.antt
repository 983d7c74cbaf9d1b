-- What `late_time`'s loop keeps: no column passed is late. Assumes nothing.
use Rattle.std.proofs.Common.{◌≡◌, false}
use Rattle.settings.specs.Refusal.{any_below}
use Rattle.admission.specs.Refusal.{late_time}
use Rattle.admission.proofs.late_time.Given as goal

abbrev pub invariant-loop-c : goal.invariant-loop-c
invariant-loop-c l = any_below l.c (late_time l.before l.marks) ≡ false
