-- What `all_on_time`'s loop keeps: no time passed is over the bits of all of them. Assumes nothing.
use Rattle.std.proofs.Common.{ℕ, ◌≤◌, ◌<◌, get_or}
use Rattle.admission.proofs.all_on_time.Given as goal

abbrev pub invariant-loop-time : goal.invariant-loop-time
invariant-loop-time l = (k : ℕ) → k < l.time-index → get_or l.before k 0 ≤ l.bits
