-- Bytes of marks that hold none: their columns are correct; and the tiles of a plain stretch, eight at once or one more. Assumes nothing.
use mathlib.Core.Path.{◌≡◌, ◌∙◌, ap}
use mathlib.Core.Bool.{false}
use mathlib.Core.List.{List}
use Prim.Native.Nat.{ℕ, ◌+◌, ◌-◌, ◌/◌, ◌%◌, ◌^◌, ◌≤◌, ◌<◌}
use lib.ListN.{get_or}
use native.Mathlib.Nat.{zero-div}
use native.Mathlib.Omega.{arith}
use Rattle.settings.proofs.Laws.Cases.{by_order, by_equal}
use Rattle.columns.specs.Marks.{marked}
use Rattle.columns.specs.Plain.{Quiet, Plain}

pub unmarked : (ms : List ℕ) (k : ℕ) → get_or ms (k / 8) 0 ≡ 0 → marked ms k ≡ false
unfolding marked
unmarked ms k e = rw (e, zero-div (2 ^ (k % 8)))

module _ (w : ℕ) (ms : List ℕ) {c : ℕ} where
  pub quiet_column : Quiet w ms c → (k : ℕ) → c ≤ k → k < c + 8 → marked ms k ≡ false
  quiet_column q k i j =
      let same : k / 8 ≡ c / 8 = omega (arith, q.starts) in
      unmarked ms k (ap (λ (b : ℕ). get_or ms b 0) same ∙ q.none)

  -- no tile yet
  pub plain_none : 3 ≤ c → c + 2 < w → marked ms (c - 1) ≡ false → marked ms c ≡ false → Plain w ms c 0
  plain_none past short left own =
      record {
        past = past;
        short = omega arith;
        correct = λ k i j. by_equal k c
            (λ e. rw e own)
            (λ n. let e : k ≡ c - 1 = omega arith in rw e left);
      }

  -- a tile more
  pub plain_more : {n : ℕ} → Plain w ms c n → c + n + 3 < w → marked ms (c + n + 1) ≡ false → Plain w ms c (n + 1)
  plain_more {n} p short right =
      record {
        past = p.past;
        short = omega arith;
        correct = λ k i j. by_equal k (c + n + 1)
            (λ e. rw e right)
            (λ e. p.correct k i (omega arith));
      }

  -- eight tiles
  pub plain_eight : 3 ≤ c → marked ms (c - 1) ≡ false → Quiet w ms c → marked ms (c + 8) ≡ false → Plain w ms c 8
  plain_eight past left q right =
      record {
        past = past;
        short = omega (arith, q.inside);
        correct = λ k i j. by_equal k (c + 8)
            (λ e. rw e right)
            (λ n. by_order c k
            (λ l. quiet_column q k l (omega arith))
            (λ l. let e : k ≡ c - 1 = omega arith in rw e left));
      }
