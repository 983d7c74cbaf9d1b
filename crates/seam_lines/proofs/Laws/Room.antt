-- Each of the five runs of a row's seams finds its columns and room for its lines, and leaves room for the next. Assumes nothing.
use mathlib.Core.Path.{◌≡◌}
use mathlib.Core.Bool.{true}
use mathlib.Core.List.{List}
use Prim.Native.Nat.{ℕ, ◌+◌, ◌-◌, ◌*◌, ◌≤◌}
use native.Mathlib.Omega.{arith}
use lib.Dec.{leb}
use lib.ListN.{length}
use borrow.Author.Tests.{leb-true}
use Rattle.columns.specs.Wrote.{Wrote}
use Rattle.columns.proofs.Laws.Wrote.{room_left}
use Rattle.seam_lines.specs.Seam.{run_after}
use Rattle.seam_lines.proofs.Laws.Runs.{run_length}

-- a row, and what its lines begin with
pub record Row (head times : List ℕ) (w : ℕ) : Type 0 where
  pub short : length head ≤ 7
  pub wide : 6 ≤ w
  pub most : w ≤ 256
  pub same : length times ≡ w

-- what a run asks of its columns and of the room where it starts
abbrev Fits : (gap from to count at room : ℕ) → Type 0
Fits gap from to n at room = (gap ≤ from) × (from ≤ to) × (to ≤ n) × (at + 49 * (to - from) ≤ room)

module _ {head ts : List ℕ} {w : ℕ} (k : Row head ts w) (at room : ℕ) where
  pub first_room : at + 49 * (w + 1) ≤ room → at + 49 * w ≤ room
  first_room i = omega arith

  pub second_room : at + 49 * w ≤ room → at + 49 * (w - 1 + 1) ≤ room
  second_room i = omega arith

  -- among the first columns
  pub first_fits : (gap from to : ℕ) → leb gap from ≡ true → leb from to ≡ true → leb to 3 ≡ true → at + 49 * w ≤ room → Fits gap from to (length ts) at room
  first_fits gap from to i j l more = omega (arith, leb-true gap from i, leb-true from to j, leb-true to 3 l)

  pub third_fits : at + 49 * (w - 1) ≤ room → Fits 1 2 (w - 1) (length ts) at room
  third_fits i = omega arith

  pub fourth_fits : at + 98 ≤ room → Fits 2 (w - 1) w (length ts) at room
  fourth_fits i = omega arith

  pub fifth_fits : at + 49 ≤ room → Fits 1 (w - 1) w (length ts) at room
  fifth_fits i = omega arith

module _ {head ts : List ℕ} {w : ℕ} (k : Row head ts w) (ms : List ℕ) {o p : List ℕ} {at end : ℕ} where
  left : (gap from count more : ℕ) → from + count ≤ 256 → at + (49 * count + more) ≤ length o → Wrote o at (run_after head ms ts gap from count) p end →
      end + more ≤ length p
  left gap from n more i room wrote = room_left wrote (49 * n) more (run_length head ms ts k.short gap from n i) room

  pub first_left : (gap from count more : ℕ) → leb (from + count) 3 ≡ true → leb count 1 ≡ true → at + 49 * (more + 1) ≤ length o →
      Wrote o at (run_after head ms ts gap from count) p end → end + 49 * more ≤ length p
  first_left gap from n more i j room =
      left gap from n (49 * more) (omega (arith, leb-true (from + n) 3 i)) (omega (arith, leb-true n 1 j))

  pub third_left : at + 49 * (w - 1) ≤ length o → Wrote o at (run_after head ms ts 1 2 (w - 1 - 2)) p end → end + 98 ≤ length p
  third_left i = left 1 2 (w - 1 - 2) 98 (omega arith) (omega arith)

  pub fourth_left : at + 98 ≤ length o → Wrote o at (run_after head ms ts 2 (w - 1) (w - (w - 1))) p end → end + 49 ≤ length p
  fourth_left i = left 2 (w - 1) (w - (w - 1)) 49 (omega arith) (omega arith)
