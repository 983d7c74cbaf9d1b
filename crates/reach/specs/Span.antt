-- The columns that a broken tile can reach: those within so many hops of its own, from the first to the last.
-- Assumes nothing.
use Rattle.std.specs.Prelude.{cond, ℕ, ◌+◌, ◌-◌, ◌≤◌, ◌<◌, min, eqb, ltb}
use Rattle.columns.specs.Columns.{HopsWithin}

-- §15.2 the columns below this have column 0 within n hops, since columns 0 and 2 are neighbours
unfoldable pub end_within : (n : ℕ) → ℕ
end_within n = n + 2

-- §15.2 the first column within n hops of column k. The last column reaches as far as the one next to it, since it has columns W - 2
-- and W - 3 beside it
unfoldable pub first_within : (w k n : ℕ) → ℕ
first_within w k n = cond (eqb n 0) k (cond (ltb (min k (w - 2)) (end_within n)) 0 (min k (w - 2) - n))

-- §15.2 the last one, by turning the row round
unfoldable pub last_within : (w k n : ℕ) → ℕ
last_within w k n = w - 1 - first_within w (w - 1 - k) n

-- §1.2 the columns within n hops are those from the first to the last
pub record Spanned (w n k c : ℕ) : Type 0 where
  pub reached : HopsWithin w n k c → (first_within w k n ≤ c) × (c ≤ last_within w k n)
  pub within : first_within w k n ≤ c → c ≤ last_within w k n → HopsWithin w n k c

-- §1.2 so it is of every wall
unfoldable pub SpanRight : Type 0
SpanRight = (w n k c : ℕ) → 6 ≤ w → k < w → c < w → Spanned w n k c
