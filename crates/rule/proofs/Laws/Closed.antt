-- The rule as written equals its closed form: D is own less the middle and h, and own less the correction is P. Assumes nothing.
use mathlib.Core.Path.{◌≡◌, refl, sym, ◌∙◌, ap}
use mathlib.Core.Bool.{Bool, true, false, cond, false≢true}
use Prim.Native.Nat.{ℕ, zero, suc, ◌+◌, ◌-◌, ◌*◌, ◌≤◌, ◌<◌, min, max}
use native.Mathlib.Nat.{mul-le-mul_right}
use native.Mathlib.Omega.{arith}
use lib.IntN.{ℤ, pos, negsuc, sub_ℕ, ◌-ℤ◌}
use lib.Signed.{le_z, ◌≤ℤ◌}
use borrow.Author.Tests.{leb-true}
use Rattle.rule.specs.Signed.{smaller}
use Rattle.rule.specs.Stamp.{Stamp, heard, silent, ◌≼◌, in_order, last}
use Rattle.rule.specs.Forward.{larger_at, least_to, D, heard_correction, P}
use Rattle.rule.specs.Closed.{lift, middle, heard_P, closed_P}
use Rattle.settings.proofs.Laws.Cases.{by_order}
use Rattle.rule.proofs.Laws.Signed.{sub_pos, sub_same, minus, sub_plus, sub_minus, minus_sub, sub_le, sub_≤, sub_not_le, sub_larger, sub_smaller, sub_negative, sub_not_negative, pos_sub}
use Rattle.rule.proofs.Laws.Middle.{Turn, lift_most, lift_turn}
use Rattle.rule.proofs.Laws.Heard.{waits, decides, hurries}

-- what some value of a function is, and no value is below, is the least of its values to there
leZ_antisym : (a b : ℤ) → le_z a b ≡ true → le_z b a ≡ true → a ≡ b
leZ_antisym (pos a) (pos b) p q = ap pos (omega (arith, leb-true a b p, leb-true b a q))
leZ_antisym (pos a) (negsuc b) p q = absurd (false≢true p)
leZ_antisym (negsuc a) (pos b) p q = absurd (false≢true q)
leZ_antisym (negsuc a) (negsuc b) p q = ap negsuc (omega (arith, leb-true b a p, leb-true a b q))

module _ (f : ℕ → ℤ) (v : ℤ) (below : (s : ℕ) → le_z v (f s) ≡ true) where
  smaller_below : (a b : ℤ) → le_z v a ≡ true → le_z v b ≡ true → le_z v (smaller a b) ≡ true
  unfolding smaller
  smaller_below a b p q = pick (le_z a b)
    where
      pick : (t : Bool) → le_z v (cond t a b) ≡ true
      pick true = p
      pick false = q

  least_below : (n : ℕ) → le_z v (least_to n f) ≡ true
  unfolding least_to
  least_below zero = below 0
  least_below (suc n) = smaller_below (least_to n f) (f (suc n)) (least_below n) (below (suc n))

  smaller_right : (a : ℤ) → le_z v a ≡ true → smaller a v ≡ v
  unfolding smaller
  smaller_right a p = pick (le_z a v) refl
    where
      pick : (t : Bool) → le_z a v ≡ t → cond t a v ≡ v
      pick true q = leZ_antisym a v q p
      pick false q = refl

  least_is : (n k : ℕ) → k ≤ n → f k ≡ v → least_to n f ≡ v
  unfolding least_to smaller
  least_is zero k i e = ap f (omega arith) ∙ e
  least_is (suc n) k i e =
      by_order k n
      (λ j. rw (least_is n k j e, below (suc n)))
      (λ j. let last : suc n ≡ k = omega arith in rw (ap f last ∙ e) (smaller_right (least_to n f) (least_below n)))

larger_at_sub : (h o l m s : ℕ) → larger_at h o l m s ≡ sub_ℕ (max (o + 8 * h * s + (l + 8 * h * s)) (o + m)) (m + (l + 8 * h * s))
unfolding larger_at
larger_at_sub h o l m s =
    let e = 8 * h * s in
    rw (minus o m, minus o l, sub_plus o m e, sub_minus o l e) (sub_larger (o + e) m o (l + e))

module _ {h : ℕ} (pos_h : 0 < h) (j o : ℕ) {l m : ℕ} (ordered : l ≤ m) where
  larger_at_below : (s : ℕ) → le_z (sub_ℕ o (middle h l m)) (larger_at h o l m s) ≡ true
  unfolding middle
  larger_at_below s =
      rw (larger_at_sub h o l m s)
      (sub_le o (l + lift h (m - l)) (max (o + 8 * h * s + (l + 8 * h * s)) (o + m)) (m + (l + 8 * h * s))
      (omega (arith, lift_most pos_h (m - l) s)))

  larger_at_turn : (t : Turn h (m - l)) → larger_at h o l m t.s ≡ sub_ℕ o (middle h l m)
  unfolding middle
  larger_at_turn t =
      larger_at_sub h o l m t.s
      ∙ sub_same (max (o + 8 * h * t.s + (l + 8 * h * t.s)) (o + m)) (m + (l + 8 * h * t.s)) o (l + lift h (m - l))
      (omega (arith, t.attained, t.within))

  turn_early : (t : Turn h (m - l)) → t.s ≤ m - l
  turn_early t = omega (arith, t.within, mul-le-mul_right t.s pos_h)

  least_sub : least_to (m - l) (larger_at h o l m) ≡ sub_ℕ o (middle h l m)
  least_sub =
      let t = lift_turn pos_h (m - l) in
      least_is (larger_at h o l m) (sub_ℕ o (middle h l m)) larger_at_below (m - l) t.s (turn_early t) (larger_at_turn t)

  pub D_sub : D h o l m ≡ sub_ℕ o (middle h l m + h)
  unfolding D
  D_sub = rw least_sub (sub_minus o (middle h l m) h)

  -- D is the least over ALL s: some s gives it, and none gives less
  pub D_attained : D h o l m ≡ larger_at h o l m (lift_turn pos_h (m - l)).s -ℤ pos h
  unfolding D
  D_attained = rw (least_sub, larger_at_turn (lift_turn pos_h (m - l)))

  pub D_below : (s : ℕ) → D h o l m ≤ℤ (larger_at h o l m s -ℤ pos h)
  unfolding middle
  D_below s =
      rw (D_sub, larger_at_sub h o l m s, sub_minus (max (o + 8 * h * s + (l + 8 * h * s)) (o + m)) (m + (l + 8 * h * s)) h)
      (sub_≤ o (l + lift h (m - l) + h) (max (o + 8 * h * s + (l + 8 * h * s)) (o + m)) (m + (l + 8 * h * s) + h)
      (omega (arith, lift_most pos_h (m - l) s)))

  -- own less the correction, in each of the three cases
  correction_waits : o < middle h l m + h → pos o -ℤ heard_correction h j o l m ≡ pos (max o (l - 3 * h))
  unfolding heard_correction
  correction_waits i =
      rw (D_sub, sub_negative o (middle h l m + h) i, minus o l, sub_plus o l (3 * h), pos_sub 0, sub_smaller (o + 3 * h) l 0 0)
      (minus_sub o (min (o + 3 * h + 0) (0 + l)) (l + 0)
      ∙ sub_pos (o + (l + 0)) (min (o + 3 * h + 0) (0 + l)) (omega arith)
      ∙ ap pos (omega arith))

  correction_decides : middle h l m + h ≤ o → o ≤ middle h l m + h + j → pos o -ℤ heard_correction h j o l m ≡ pos (middle h l m + h)
  unfolding heard_correction
  correction_decides i k =
      rw (D_sub, sub_not_negative o (middle h l m + h) i, pos_sub j, sub_le o (middle h l m + h) j 0 (omega arith))
      (minus_sub o o (middle h l m + h) ∙ sub_pos (o + (middle h l m + h)) o (omega arith) ∙ ap pos (omega arith))

  correction_hurries : middle h l m + h + j < o → pos o -ℤ heard_correction h j o l m ≡ pos (min (m + 3 * h) (o - j))
  unfolding heard_correction
  correction_hurries i =
      rw (
        D_sub,
        sub_not_negative o (middle h l m + h) (omega arith),
        pos_sub j,
        sub_not_le o (middle h l m + h) j 0 (omega arith),
        minus o m,
        sub_minus o m (3 * h),
        sub_larger o (m + 3 * h) j 0,
      )
      (minus_sub o (max (o + 0) (j + (m + 3 * h))) (m + 3 * h + 0)
      ∙ sub_pos (o + (m + 3 * h + 0)) (max (o + 0) (j + (m + 3 * h))) (omega arith)
      ∙ ap pos (omega arith))

  pub heard_closed : pos o -ℤ heard_correction h j o l m ≡ pos (heard_P h j o l m)
  heard_closed =
      by_order (middle h l m + h) o
      (λ i. by_order o (middle h l m + h + j)
      (λ k. correction_decides i k ∙ sym (ap pos (decides h j o l m i k)))
      (λ k. correction_hurries k ∙ sym (ap pos (hurries h j o l m k))))
      (λ i. correction_waits i ∙ sym (ap pos (waits h j o l m i)))

-- P is the closed form, for all stamps
pub rule_closed : {h : ℕ} → 0 < h → (j : ℕ) (own : Stamp) {least most : Stamp} → least ≼ most →
    P h j own least most ≡ pos (closed_P h j own least most)
unfolding P closed_P
rule_closed pos_h j (heard o) (in_order i) = heard_closed pos_h j o i
rule_closed {h} pos_h j (heard o) (last {x = heard l}) =
    rw (minus l (3 * h), pos_sub o, sub_larger o 0 l (3 * h))
    (sub_pos (max (o + 3 * h) (l + 0)) (0 + 3 * h) (omega arith) ∙ ap pos (omega arith))
rule_closed pos_h j (heard o) (last {x = silent}) = refl
rule_closed pos_h j silent (in_order i) = refl
rule_closed pos_h j silent last = refl
