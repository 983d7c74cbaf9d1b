-- The smaller of a word and a bound. Assumes nothing.
use mathlib.Core.Path.{◌≡◌}
use Prim.Native.Nat.{ℕ, min}
use native.Mathlib.Omega.{arith}
use borrow.Author.Tests.{lt-ltb, le-ltb}
use Rattle.settings.proofs.Laws.Cases.{by_order}
use Rattle.layout.specs.Words.{at_most}

pub at_most_is : (most word : ℕ) → min word most ≡ at_most most word
unfolding at_most
at_most_is m n =
    by_order m n
    (λ i. rw (le-ltb n m i) (omega (arith, i)))
    (λ i. rw (lt-ltb n m i) (omega (arith, i)))
