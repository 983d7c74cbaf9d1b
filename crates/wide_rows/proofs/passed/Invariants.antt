-- What comes first from this seam on is what came first from the seam asked for.
use Rattle.std.proofs.Common.{◌≡◌, List, ℕ, ◌-◌, ◌≤◌, max, length, get_or}
use Rattle.wide.specs.Wide.{rest_first}
use Rattle.wide_rows.proofs.passed.Given as goal

abbrev pub invariant-loop-at : goal.invariant-loop-at
invariant-loop-at l =
    (l.at ≤ max l.i (length l.times - 1)) × (l.left ≡ get_or l.times (l.at - 1) 0)
    × ((marks : List ℕ) → rest_first l.limit (length l.times) l.times marks l.i ≡ rest_first l.limit (length l.times) l.times marks l.at)
