-- The row is filled so far.
use Rattle.std.proofs.Common.{◌-◌, length}
use Rattle.admission.specs.Call.{call}
use Rattle.row.specs.Row.{pulses}
use Rattle.row.specs.Progress.{SoFar}
use Rattle.row.proofs.plan.Given as goal

abbrev pub invariant-loop-done : goal.invariant-loop-done
invariant-loop-done l =
    SoFar l.settings l.before (call l.marks l.drifts l.phases l.links l.settings.width l.settings.width) (pulses l.fn.times l.fn.letters) (pulses l.times l.letters) l.done

abbrev pub decreases-loop-done : goal.decreases-loop-done
decreases-loop-done l = length l.fn.times - l.done.next
