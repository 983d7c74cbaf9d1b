-- What `stray_mark`'s loop keeps: no column passed is marked past the last. Assumes nothing.
use Rattle.std.proofs.Common.{◌≡◌, false}
use Rattle.settings.specs.Refusal.{any_below}
use Rattle.admission.specs.Refusal.{stray_mark}
use Rattle.admission.proofs.stray_mark.Given as goal

abbrev pub invariant-loop-c : goal.invariant-loop-c
invariant-loop-c l = any_below l.c (stray_mark l.width l.marks) ≡ false
