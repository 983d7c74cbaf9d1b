-- What `any_over`'s loop keeps: a column passed is over the limit where the largest value of them is. Assumes nothing.
use Rattle.std.proofs.Common.{◌≡◌, ltb}
use Rattle.settings.specs.Refusal.{any_below}
use Rattle.admission.specs.Refusal.{over}
use Rattle.admission.proofs.any_over.Given as goal

abbrev pub invariant-loop-value : goal.invariant-loop-value
invariant-loop-value l = any_below l.value-index (over l.limit l.values) ≡ ltb l.limit l.most
