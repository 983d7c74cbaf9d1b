-- A lent row or buffer as it is filled so far. Assumes nothing.
use Rattle.std.specs.Prelude.{◌≡◌, List, ◌++◌, ℕ, ◌+◌, length, take}

-- §13.4 from place `at` on there stands what was written, which ends at `end`; what stood before it is as it was
pub record Wrote (before : List ℕ) (at : ℕ) (written : List ℕ) (after : List ℕ) (end : ℕ) : Type 0 where
  pub as_long : length after ≡ length before
  pub goes : end ≡ at + length written
  pub holds : take end after ≡ take at before ++ written
