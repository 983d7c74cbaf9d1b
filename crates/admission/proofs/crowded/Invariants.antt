-- What `crowded`'s loops keep: no column passed is crowded. Assumes nothing.
use Rattle.std.proofs.Common.{◌≡◌, ◌*◌, ◌<◌, ℕ, false}
use Rattle.admission.specs.Refusal.{crowded}
use Rattle.admission.proofs.crowded.Given as goal

abbrev pub invariant-loop-byte : goal.invariant-loop-byte
invariant-loop-byte l = (k : ℕ) → k < 8 * l.byte → k < l.width → crowded l.width l.marks k ≡ false

abbrev pub invariant-loop-c : goal.invariant-loop-c
invariant-loop-c l = (k : ℕ) → k < l.c → k < l.width → crowded l.width l.marks k ≡ false
