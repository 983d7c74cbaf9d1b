-- What comes first is what comes first from this seam on.
use mathlib.Core.Path.{◌≡◌}
use Prim.Native.Nat.{suc, ◌-◌, ◌≤◌}
use lib.ListN.{length}
use Rattle.wide.specs.Wide.{rest_first, row_first}
use Rattle.wide_rows.proofs.along.Given as goal

abbrev pub invariant-loop-i : goal.invariant-loop-i
invariant-loop-i l = let w = length l.times in (l.i ≤ suc w) × (rest_first l.limit w l.times l.marks l.i ≡ row_first l.limit w l.times l.marks)

abbrev pub decreases-loop-i : goal.decreases-loop-i
decreases-loop-i l = suc (length l.times) - l.i
