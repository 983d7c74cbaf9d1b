-- The row is filled so far, up to the tile that is next.
use Rattle.std.proofs.Common.{◌≡◌}
use Rattle.admission.specs.Call.{call}
use Rattle.row.specs.Row.{pulses}
use Rattle.row.specs.Progress.{SoFar}
use Rattle.row.proofs.progress.further.Given as goal

abbrev pub invariant-loop-c : goal.invariant-loop-c
invariant-loop-c l =
    SoFar l.settings l.before (call l.marks l.drifts l.phases l.links l.settings.width l.settings.width) (pulses l.fn.times l.fn.letters) (pulses l.times l.letters) l.so_far
    × (l.so_far.next ≡ l.c)
