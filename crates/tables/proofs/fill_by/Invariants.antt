-- The loop's invariant: the places passed are filled.
use Rattle.std.proofs.Common.{ℕ, ◌<◌, get_or}
use Rattle.tables.proofs.fill_by.Given as goal

abbrev pub invariant-loop-k : goal.invariant-loop-k
invariant-loop-k g l = (k : ℕ) → k < l.k → goal.F-post g l.word k (get_or l.part k 0)
