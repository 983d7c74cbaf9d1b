-- A column's word, put, writes the column and a space. Assumes nothing.
use mathlib.Core.Path.{◌≡◌, sym}
use mathlib.Core.List.{List}
use Prim.Native.Nat.{ℕ, ◌+◌, ◌≤◌}
use native.Mathlib.Omega.{arith}
use lib.ListN.{length, get_or}
use Rattle.tables.specs.Word.{bytes, word_of, spaced, Holds, Tables}
use Rattle.columns.specs.Wrote.{Wrote}
use Rattle.tables.proofs.Laws.Word.{small_spaced, wrote_text}
use Rattle.tables.proofs.Laws.Digits.{spaced_short}

module _ {t : List ℕ} (tables : Tables t) (k : ℕ) (i : k ≤ 255) where
  column_word : get_or t (912 + k) 0 ≡ word_of (spaced k)
  unfolding Holds
  column_word = tables.columns k (omega arith)

  column_length : get_or t (1168 + k) 0 ≡ length (spaced k)
  unfolding Holds
  column_length = tables.lengths k (omega arith)

  pub column_short : get_or t (1168 + k) 0 ≤ 4
  column_short = omega (arith, column_length, spaced_short k (omega arith))

  pub wrote_column : {a b : List ℕ} {at : ℕ} → Wrote a at (bytes 8 (get_or t (912 + k) 0)) b (at + 8) → at ≤ length a →
      Wrote a at (spaced k) b (at + get_or t (1168 + k) 0)
  wrote_column w room =
      wrote_text (get_or t (912 + k) 0) w room (small_spaced k) (get_or t (1168 + k) 0) (sym column_length) (omega (arith, column_short)) column_word
