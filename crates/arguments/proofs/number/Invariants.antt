-- The digits so far spell the number, which is within the largest. Assumes nothing.
use Prim.Native.Nat.{◌≤◌}
use Rattle.arguments.proofs.Laws.Words.{SpeltTo}
use Rattle.arguments.proofs.number.Given as goal

abbrev pub invariant-loop-byte : goal.invariant-loop-byte
invariant-loop-byte l = (l.n ≤ l.limits.largest) × SpeltTo l.word l.byte-index l.n
