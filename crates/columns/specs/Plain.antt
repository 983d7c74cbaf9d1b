-- The code's own: where marks need not be looked at one by one. Assumes nothing.
use Rattle.std.specs.Prelude.{false, List, ◌≡◌, ℕ, ◌/◌, ◌%◌, ◌+◌, ◌≤◌, ◌<◌, get_or}
use Rattle.columns.specs.Marks.{marked}

-- §7.5 a byte of marks that holds none, its columns before the last three
pub record Quiet (w : ℕ) (marks : List ℕ) (c : ℕ) : Type 0 where
  pub starts : c % 8 ≡ 0
  pub inside : c + 11 ≤ w
  pub none : get_or marks (c / 8) 0 ≡ 0

-- §7.6 n tiles from column c on, away from the ends, their predecessors correct
pub record Plain (w : ℕ) (marks : List ℕ) (c n : ℕ) : Type 0 where
  pub past : 3 ≤ c
  pub short : c + n + 2 < w
  pub correct : (k : ℕ) → c ≤ k + 1 → k ≤ c + n → marked marks k ≡ false
