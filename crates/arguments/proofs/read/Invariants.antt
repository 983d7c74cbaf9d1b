-- The words so far are numbers, which stand in front. Assumes nothing.
use mathlib.Core.Path.{◌≡◌}
use lib.ListN.{length}
use Rattle.arguments.proofs.Laws.Call.{SoFar}
use Rattle.arguments.proofs.read.Given as goal

abbrev pub invariant-loop-i : goal.invariant-loop-i
invariant-loop-i g l = (length l.numbers ≡ length l.fn.numbers) × SoFar l.needed l.limits.least l.limits.largest l.fn.numbers l.i l.numbers
