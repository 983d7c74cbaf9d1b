-- P with silence: monotone in each stamp with silence last, moved by a shift of all, and bounded by the stamps of any
-- correct predecessors. What the reach of a faulty tile (§12.3) and its companions cite. Assumes nothing.
--
-- Throughout: unit h, step j (§2.4), own's stamp, the earliest and latest of the neighbours'.
use mathlib.Core.Path.{◌≡◌}
use mathlib.Core.List.{List}
use Prim.Native.Nat.{ℕ, ◌+◌, ◌-◌, ◌*◌, ◌≤◌, ◌<◌, min, max}
use lib.ListN.{length}
use native.Mathlib.Omega.{arith}
use Rattle.rule.specs.Stamp.{Stamp, heard, silent, ◌≼◌, in_order, last, earliest, latest, after, FromTo, within, unheard_of, unheard_in}
use Rattle.rule.specs.Closed.{closed_P}
use Rattle.rule.proofs.Laws.Heard.{heard_least, heard_most, heard_by_least, heard_by_most, heard_mono, heard_shift}
use Rattle.rule.proofs.Laws.Stamp.{By, heard_by, unheard, earliest_heard, latest_heard}

-- enough is heard for a pulse: own and a neighbour, or all neighbours
pub data Enough : (own least most : Stamp) → Type 0 where
  with_own : {o l : ℕ} {most : Stamp} → Enough (heard o) (heard l) most
  without_own : {l m : ℕ} → Enough silent (heard l) (heard m)

-- with two neighbours or more, enough is heard where at most one predecessor is silent
pub enough : (own : Stamp) (ns : List Stamp) → 2 ≤ length ns → unheard_of own + unheard_in ns ≤ 1 → Enough own (earliest ns) (latest ns)
unfolding unheard_of
enough (heard o) ns i k = let (l, p) = earliest_heard ns (omega arith) in rw p with_own
enough silent ns i k =
    let (l, p) = earliest_heard ns (omega arith) in
    let (m, q) = latest_heard ns (omega arith) in
    rw (p, q) without_own

module _ {h : ℕ} (pos : 0 < h) (j : ℕ) where
  -- a later stamp, or a silent one in its place, gives no earlier P
  pub P_mono : {o l m o' l' m' : Stamp} → Enough o' l' m' → l ≼ m → l' ≼ m' → o ≼ o' → l ≼ l' → m ≼ m' →
      closed_P h j o l m ≤ closed_P h j o' l' m'
  unfolding closed_P
  P_mono with_own (in_order i) (in_order i') (in_order a) (in_order b) (in_order c) = heard_mono pos j i i' a b c
  P_mono with_own (in_order i) last (in_order {a = o} a) (in_order b) last = omega (arith, heard_by_least pos j o i)
  P_mono with_own last last (in_order a) (in_order b) last = omega arith
  P_mono without_own (in_order i) (in_order i') (last {x = heard o}) (in_order b) (in_order c) = omega (arith, heard_most pos j o i)
  P_mono without_own (in_order i) (in_order i') (last {x = silent}) (in_order b) (in_order c) = omega arith
  P_mono with_own last (in_order i') _ _ x = elim x [ ]
  P_mono without_own last _ _ _ x = elim x [ ]

  -- all stamps n later give P n later
  pub P_after : (n : ℕ) {o l m : Stamp} → Enough o l m → closed_P h j (after n o) (after n l) (after n m) ≡ closed_P h j o l m + n
  unfolding closed_P after
  P_after n (with_own {o = o} {l = l} {most = heard m}) = heard_shift h j o l m n
  P_after n (with_own {o = o} {l = l} {most = silent}) = omega arith
  P_after n without_own = omega arith

  -- whatever own is, P lies within 3h of the neighbours
  pub by_neighbours : (lo hi : ℕ) (own : Stamp) {l m : Stamp} → l ≼ m → FromTo lo hi l → FromTo lo hi m →
      (lo ≤ closed_P h j own l m + 3 * h) × (closed_P h j own l m ≤ hi + 3 * h)
  unfolding closed_P
  by_neighbours lo hi (heard o) (in_order i) (within a b) (within c d) = omega (arith, heard_least pos j o i, heard_most pos j o i)
  by_neighbours lo hi silent (in_order i) (within a b) (within c d) = omega arith
  by_neighbours lo hi (heard o) last _ x = elim x [ ]
  by_neighbours lo hi silent last _ x = elim x [ ]

  -- whatever the other neighbours are, P lies between own and any one of them
  pub by_own_and_one : (o a : ℕ) {l m : Stamp} → l ≼ m → l ≼ heard a → heard a ≼ m →
      (min (o - j) (a + 3 * h) ≤ closed_P h j (heard o) l m) × (closed_P h j (heard o) l m ≤ max o (a - 3 * h))
  unfolding closed_P
  by_own_and_one o a (in_order i) (in_order b) (in_order c) =
      (omega (arith, heard_by_most pos j o i), omega (arith, heard_by_least pos j o i))
  by_own_and_one o a last (in_order b) last = (omega arith, omega arith)

  -- with all stamps heard by hi, P is at most hi + 3h
  pub P_most : {hi : ℕ} {o l m : Stamp} → Enough o l m → l ≼ m → By hi o → By hi l → By hi m → closed_P h j o l m ≤ hi + 3 * h
  unfolding closed_P
  P_most with_own (in_order i) (heard_by {a = o} a) (heard_by b) (heard_by c) = omega (arith, heard_most pos j o i)
  P_most with_own last (heard_by a) (heard_by b) unheard = omega arith
  P_most without_own (in_order i) unheard (heard_by b) (heard_by c) = omega arith
