-- The widest gap of a row, pair by pair. Assumes nothing.
use mathlib.Core.Path.{◌≡◌, refl}
use mathlib.Core.Bool.{Bool, true}
use mathlib.Core.List.{List}
use Prim.Native.Nat.{ℕ, zero, suc, ◌+◌, ◌-◌, ◌≤◌, ◌<◌, max}
use lib.ListN.{length, get_or}
use native.Mathlib.Omega.{arith}
use Rattle.settings.proofs.Laws.Cases.{by_equal}
use Rattle.rule.specs.Stamp.{latest_stamp}
use Rattle.columns.specs.Columns.{are_neighbours, columns_from, neighbours}
use Rattle.runs.specs.Reach.{apart, widest, gap_below, widest_gap}
use Rattle.columns.proofs.Laws.Columns.{next, first_third, third_last}
use Rattle.columns.proofs.Laws.Lists.{by_test}
use Rattle.runs.proofs.Laws.Reach.{neighbours_apart}
use Rattle.reach.proofs.Laws.Neighbours.{by_neighbours}

apart_turned : (a b : ℕ) → apart a b ≡ apart b a
unfolding apart
apart_turned a b = omega arith

module _ (ts : List ℕ) (most : ℕ) where
  columns_most : (f : ℕ → Bool) (t n a : ℕ) → ((k : ℕ) → a ≤ k → k < a + n → f k ≡ true → apart t (get_or ts k 0) ≤ most) → widest t ts (columns_from n a f) ≤ most
  unfolding columns_from widest
  columns_most f t zero a h = omega arith
  columns_most f t (suc n) a h =
      let rest = columns_most f t n (suc a) (λ k i j e. h k (omega arith) (omega arith) e) in
      by_test (f a) (λ e. rw e (let here = h a (omega arith) (omega arith) e in omega arith)) (λ e. rw e rest)

  -- where no pair is wider, the widest is not
  module _ (w : ℕ) (h : (c j : ℕ) → c < w → j < w → are_neighbours w c j ≡ true → apart (get_or ts c 0) (get_or ts j 0) ≤ most) where
    below_not_wider : (n : ℕ) → n ≤ w → gap_below n w ts ≤ most
    unfolding gap_below neighbours
    below_not_wider zero i = omega arith
    below_not_wider (suc n) i =
        let before = below_not_wider n (omega arith) in
        let here = columns_most (are_neighbours w n) (get_or ts n 0) w 0 (λ k j l e. h n k (omega arith) (omega arith) e) in
        omega arith

    pub not_wider : widest_gap w ts ≤ most
    unfolding widest_gap
    not_wider = below_not_wider w (omega arith)

-- times up to 2^41 - 1 are at most so far apart
apart_small : (a b m : ℕ) → a ≤ m → b ≤ m → apart a b ≤ m
unfolding apart
apart_small a b m i j = omega (arith, i, j)

pub gap_small : (w : ℕ) (ts : List ℕ) → ((c : ℕ) → c < w → get_or ts c 0 ≤ latest_stamp) → widest_gap w ts ≤ latest_stamp
gap_small w ts early =
    not_wider ts latest_stamp w (λ c j p q e. apart_small (get_or ts c 0) (get_or ts j 0) latest_stamp (early c p) (early j q))

-- the ends, and each two columns in a row before c, are at most so far apart, and some neighbours are so far
pub record Gapped (ts : List ℕ) (most c : ℕ) : Type 0 where
  pub first : apart (get_or ts 0 0) (get_or ts 2 0) ≤ most
  pub last : apart (get_or ts (length ts - 3) 0) (get_or ts (length ts - 1) 0) ≤ most
  pub passed : (i : ℕ) → i + 1 < c → apart (get_or ts i 0) (get_or ts (i + 1) 0) ≤ most
  pub met : most ≤ widest_gap (length ts) ts

module _ (ts : List ℕ) (wide : 6 ≤ length ts) where
  abbrev w : ℕ
  w = length ts

  pub ends_gapped : {a b most : ℕ} → a ≡ apart (get_or ts 0 0) (get_or ts 2 0) → b ≡ apart (get_or ts (w - 3) 0) (get_or ts (w - 1) 0) → most ≡ max a b → Gapped ts most 1
  ends_gapped is_a is_b is_most =
      record {
        first = omega arith;
        last = omega arith;
        passed = λ i j. let never : ⊥ = omega arith in absurd never;
        met = omega (
          arith,
          neighbours_apart ts w 0 2 (omega arith) (omega arith) (first_third w 0 2 refl refl),
          neighbours_apart ts w (w - 3) (w - 1) (omega arith) (omega arith) (third_last w (w - 3) (w - 1) (omega arith) (omega arith)),
        );
      }

  pub gapped_more : {most c a more : ℕ} → Gapped ts most c → 1 ≤ c → c < w → a ≡ apart (get_or ts (c - 1) 0) (get_or ts c 0) → more ≡ max most a → Gapped ts more (c + 1)
  gapped_more {most} {c} {a} {more} g i j is_a is_more =
      record {
        first = omega (arith, g.first);
        last = omega (arith, g.last);
        passed = λ k l. by_equal (k + 1) c
            (λ e. let here : k ≡ c - 1 = omega arith in rw (e, here) (omega arith))
            (λ e. omega (arith, g.passed k (omega arith)));
        met = omega (arith, g.met, neighbours_apart ts w (c - 1) c (omega arith) j (next w (c - 1) c (omega arith)));
      }

  pub gapped_all : {most : ℕ} → Gapped ts most w → most ≡ widest_gap w ts
  gapped_all {most} g = omega (arith, g.met, not_wider ts most w pairs)
    where
      pairs : (c j : ℕ) → c < w → j < w → are_neighbours w c j ≡ true → apart (get_or ts c 0) (get_or ts j 0) ≤ most
      pairs c j i l e =
          by_neighbours w c j e
          (λ p. let q : j ≡ c + 1 = omega arith in rw q (g.passed c (omega arith)))
          (λ p. let q : c ≡ j + 1 = omega arith in rw (q, apart_turned (get_or ts (j + 1) 0) (get_or ts j 0)) (g.passed j (omega arith)))
          (λ p q. rw (p, q) g.first)
          (λ p q. rw (p, q, apart_turned (get_or ts 2 0) (get_or ts 0 0)) g.first)
          (λ p q. let r : c ≡ w - 3 = omega arith in let s : j ≡ w - 1 = omega arith in rw (r, s) g.last)
          (λ p q. let r : c ≡ w - 1 = omega arith in let s : j ≡ w - 3 = omega arith in rw (r, s, apart_turned (get_or ts (w - 1) 0) (get_or ts (w - 3) 0)) g.last)
