-- The codes of a row's tiles. Assumes nothing.
use mathlib.Core.Path.{◌≡◌}
use mathlib.Core.List.{List}
use Prim.Native.Nat.{ℕ, ◌<◌}
use native.Mathlib.Omega.{arith}
use lib.ListN.{length, get_or}
use Rattle.columns.specs.Columns.{table_from}
use Rattle.columns.specs.Marks.{marked}
use Rattle.columns.specs.Wrote.{Wrote}
use Rattle.tile_lines.specs.Tile.{code, Coded}
use Rattle.tables.proofs.Laws.Table.{holds_first, holds_last}

module _ (cs ms ts : List ℕ) where
  pub coded_written : {held : List ℕ} {n : ℕ} → Wrote held 0 (table_from n 0 (λ k. code (marked ms k) (get_or ts k 0))) cs n → Coded cs ms ts n
  unfolding Coded
  coded_written {n = n} w = holds_last _ n w (omega arith)

  pub coded_at : (n k : ℕ) → Coded cs ms ts n → k < n → get_or cs k 0 ≡ code (marked ms k) (get_or ts k 0)
  unfolding Coded
  coded_at n k h i = holds_first cs n (λ (j : ℕ). code (marked ms j) (get_or ts j 0)) h k i

  pub coded_all : (w : ℕ) → length ts ≡ w → Coded cs ms ts w → Coded cs ms ts (length ts)
  coded_all w e h = rw e h
