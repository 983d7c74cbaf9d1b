-- The columns within n hops are those from the first to the last. Assumes nothing.
use mathlib.Core.Path.{◌≡◌, refl, sym, subst}
use Prim.Native.Nat.{ℕ, zero, suc, ◌+◌, ◌-◌, ◌≤◌, ◌<◌, min}
use native.Mathlib.Omega.{arith}
use borrow.Author.Tests.{eq-eqb, ne_eqb, lt-ltb, le-ltb}
use Rattle.settings.proofs.Laws.Cases.{by_order, by_equal}
use Rattle.columns.specs.Columns.{Way, stay, hop, HopsWithin}
use Rattle.columns.proofs.Laws.Columns.{next, first_third, third_last}
use Rattle.reach.specs.Span.{end_within, first_within, last_within, Spanned}
use Rattle.reach.proofs.Laws.Neighbours.{by_neighbours, mirrored_within}

-- what it means to lie at or after the first
abbrev Low : (w k n c : ℕ) → Type 0
Low w k n c = (n ≡ 0 → k ≤ c) × (0 < n → end_within n ≤ min k (w - 2) → min k (w - 2) ≤ c + n)

low_of : (w k n c : ℕ) → first_within w k n ≤ c → Low w k n c
unfolding first_within
low_of w k n c i =
    by_equal n 0
    (λ e. let f = rw (eq-eqb n 0 e) at i in (λ z. f, λ p q. omega arith))
    (λ e. (λ z. absurd (e z), λ p q. let f = rw (ne_eqb n 0 e, le-ltb (min k (w - 2)) (end_within n) q) at i in omega arith))

first_of : (w k n c : ℕ) → Low w k n c → first_within w k n ≤ c
unfolding first_within
first_of w k n c low =
    by_equal n 0
    (λ e. rw (eq-eqb n 0 e) (low.0 e))
    (λ e. by_order (end_within n) (min k (w - 2))
    (λ q. rw (ne_eqb n 0 e, le-ltb (min k (w - 2)) (end_within n) q) (let f = low.1 (omega arith) q in omega arith))
    (λ q. rw (ne_eqb n 0 e, lt-ltb (min k (w - 2)) (end_within n) q) (omega arith)))

pub first_small : (w k n : ℕ) → first_within w k n ≤ k
first_small w k n = first_of w k n k (λ e. omega arith, λ p q. omega arith)

-- a way does not come before it
low_way : (w k m c : ℕ) → Way w m k c → Low w k m c
unfolding end_within
low_way w k m c stay = (λ z. omega arith, λ p q. omega arith)
low_way w k (suc m) c (hop {b = b} j e way) =
    let f = low_way w k m b way in (
      λ z. let never : ⊥ = omega arith in absurd never,
      λ p q. let g : min k (w - 2) ≤ b + m = by_equal m 0 (λ z. let h = f.0 z in omega arith) (λ z. f.1 (omega arith) (omega arith)) in
          by_neighbours w c b e (λ x. omega arith) (λ x. omega arith) (λ x y. omega arith) (λ x y. omega arith) (λ x y. omega arith) (λ x y. omega arith),
    )

low_more : (w k m n c : ℕ) → m ≤ n → Low w k m c → Low w k n c
unfolding end_within
low_more w k m n c i f = (
  λ z. f.0 (omega arith),
  λ p q. by_equal m 0 (λ z. let h = f.0 z in omega arith) (λ z. let h = f.1 (omega arith) (omega arith) in omega arith),
)

-- ways on from a column b that is reached, down the columns, and to 0 in one hop less by way of 2
module _ {w k h : ℕ} where
  go_down : (m b c : ℕ) → b < w → c + m ≡ b → Way w h k b → Way w (m + h) k c
  go_down zero b c i e way =
      let same : b ≡ c = omega arith in
      let none : 0 + h ≡ h = omega arith in
      rw (none, ← same) way
  go_down (suc m) b c i e way =
      let one : suc m + h ≡ suc (m + h) = omega arith in
      let in_wall : c < w = omega arith in
      rw one (hop in_wall (next w c (suc c) refl) (go_down m b (suc c) i (omega arith) way))

  go_first : (m b : ℕ) → b < w → 2 + m ≡ b → Way w h k b → Way w (suc (m + h)) k 0
  go_first m b i e way =
      let in_wall : 0 < w = omega arith in
      hop in_wall (first_third w 0 2 refl refl) (go_down m b 2 i e way)

  -- all the columns from the first down to b
  from_there : (n b c : ℕ) → b < w → b + h ≡ min k (w - 2) → (b < 2 → h ≡ 0) → c ≤ b → 0 < n → Low w k n c → Way w h k b → HopsWithin w n k c
  unfolding end_within
  from_there n b c i e near j p low way =
      let straight : b - c + h ≤ n → HopsWithin w n k c = λ few. record { hops = b - c + h; few = few; way = go_down (b - c) b c i (omega arith) way } in
      by_order (end_within n) (min k (w - 2))
      (λ q. straight (let f = low.1 p q in omega arith))
      (λ q. by_order 1 c
      (λ l. straight (omega arith))
      (λ l. by_order 2 b
      (λ m. let zero_there : 0 ≡ c = omega arith in
      subst (HopsWithin w n k) zero_there (record { hops = suc (b - 2 + h); few = omega arith; way = go_first (b - 2) b i (omega arith) way }))
      (λ m. straight (let none = near m in omega arith))))

-- from the column itself, or of the last column from the third from it
below : (w k n c : ℕ) → 6 ≤ w → k < w → c ≤ k → Low w k n c → HopsWithin w n k c
below w k n c wide i j low =
    by_equal n 0
    (λ z. let same : k ≡ c = (let f = low.0 z in omega arith) in subst (HopsWithin w n k) same (record { hops = 0; few = omega arith; way = stay }))
    (λ p. by_order k (w - 2)
    (λ q. from_there n k c i (omega arith) (λ m. refl) j (omega arith) low stay)
    (λ q. by_order c (w - 3)
    (λ l. from_there n (w - 3) c (omega arith) (omega arith) (λ m. omega arith) l (omega arith) low
    (let in_wall : w - 3 < w = omega arith in hop in_wall (third_last w (w - 3) k (omega arith) (omega arith)) stay))
    (λ l. by_equal c k
    (λ e. subst (HopsWithin w n k) (sym e) (record { hops = 0; few = omega arith; way = stay }))
    (λ e. record { hops = 1; few = omega arith; way = let in_wall : c < w = omega arith in hop in_wall (next w c k (omega arith)) stay }))))

pub spanned : (w n k c : ℕ) → 6 ≤ w → k < w → c < w → Spanned w n k c
unfolding last_within
spanned w n k c wide i j =
    let twice : (x : ℕ) → x < w → w - 1 - (w - 1 - x) ≡ x = λ x l. omega arith in
    record {
      reached = λ r. (
        first_of w k n c (low_more w k r.hops n c r.few (low_way w k r.hops c r.way)),
        (let m = mirrored_within i r in
            let f = first_of w (w - 1 - k) n (w - 1 - c) (low_more w (w - 1 - k) m.hops n (w - 1 - c) m.few (low_way w (w - 1 - k) m.hops (w - 1 - c) m.way)) in
            omega arith),
      );
      within = λ f l. by_order c k
          (λ q. below w k n c wide i q (low_of w k n c f))
          (λ q. let m = mirrored_within (let in_wall : w - 1 - k < w = omega arith in in_wall) (below w (w - 1 - k) n (w - 1 - c) wide (omega arith) (omega arith) (low_of w (w - 1 - k) n (w - 1 - c) (omega arith))) in
          rw (twice k i, twice c j) at m);
    }
