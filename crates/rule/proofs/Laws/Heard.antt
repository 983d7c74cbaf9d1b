-- P with all stamps heard: one lattice term, so monotone in each stamp, moved by a shift of all, and bounded on four sides. Assumes nothing.
--
-- Throughout: unit h, step j (§2.4), own o, the earliest and latest neighbour l ≤ m.
use mathlib.Core.Path.{◌≡◌, sym, ◌∙◌}
use Prim.Native.Nat.{ℕ, ◌+◌, ◌-◌, ◌*◌, ◌≤◌, ◌<◌, min, max}
use native.Mathlib.Omega.{arith}
use borrow.Author.Tests.{lt-ltb, le-ltb, le-leb, lt-leb}
use Rattle.rule.specs.Closed.{middle, heard_P}
use Rattle.settings.proofs.Laws.Cases.{by_order}
use Rattle.rule.proofs.Laws.Middle.{middle_within, middle_mono, middle_shift}

-- the three cases
module _ (h j o l m : ℕ) where
  pub waits : o < middle h l m + h → heard_P h j o l m ≡ max o (l - 3 * h)
  unfolding heard_P
  waits i = rw (lt-ltb o (middle h l m + h) i)

  pub decides : middle h l m + h ≤ o → o ≤ middle h l m + h + j → heard_P h j o l m ≡ middle h l m + h
  unfolding heard_P
  decides i k = rw (le-ltb o (middle h l m + h) i, le-leb o (middle h l m + h + j) k)

  pub hurries : middle h l m + h + j < o → heard_P h j o l m ≡ min (m + 3 * h) (o - j)
  unfolding heard_P
  hurries i = rw (le-ltb o (middle h l m + h) (omega arith), lt-leb o (middle h l m + h + j) i)

-- the three cases in one term: own, held from above by `late` and from below by the earliest neighbour
unfoldable late : (h j own most middle : ℕ) → ℕ
late h j o m M = max (M + h) (min (m + 3 * h) (o - j))

unfoldable term : (h j own least most middle : ℕ) → ℕ
term h j o l m M = max (l - 3 * h) (min o (late h j o m M))

module _ (h j o m M : ℕ) where
  late_above : M + h ≤ late h j o m M
  unfolding late
  late_above = omega arith

  late_decides : o ≤ M + h + j → late h j o m M ≡ M + h
  unfolding late
  late_decides i = omega arith

  late_hurries : M ≤ m → M + h + j < o → late h j o m M ≡ min (m + 3 * h) (o - j)
  unfolding late
  late_hurries i k = omega arith

  late_most : M ≤ m → late h j o m M ≤ m + 3 * h
  unfolding late
  late_most i = omega arith

  late_own : min (m + 3 * h) (o - j) ≤ late h j o m M
  unfolding late
  late_own = omega arith

late_mono : (h j : ℕ) {o m M o' m' M' : ℕ} → o ≤ o' → m ≤ m' → M ≤ M' → late h j o m M ≤ late h j o' m' M'
unfolding late
late_mono h j a b c = omega arith

module _ {h : ℕ} (pos : 0 < h) (j o : ℕ) {l m : ℕ} (ordered : l ≤ m) where
  heard_is_term : heard_P h j o l m ≡ term h j o l m (middle h l m)
  unfolding term
  heard_is_term =
      let M = middle h l m in
      let w = middle_within pos ordered in
      by_order (M + h) o
      (λ i. by_order o (M + h + j)
      (λ k. decides h j o l m i k ∙ (rw (late_decides h j o m M k) (omega arith)))
      (λ k. hurries h j o l m k ∙ sym (own_late k)))
      (λ i. waits h j o l m i ∙ omega (arith, late_above h j o m M))
    where
      own_late : middle h l m + h + j < o → max (l - 3 * h) (min o (late h j o m (middle h l m))) ≡ min (m + 3 * h) (o - j)
      own_late k = let w = middle_within pos ordered in rw (late_hurries h j o m (middle h l m) w.1 k) (omega arith)

  -- within 3h of the neighbours, and between own and either of them
  pub heard_least : l ≤ heard_P h j o l m + 3 * h
  unfolding term
  heard_least = omega (arith, heard_is_term)

  pub heard_most : heard_P h j o l m ≤ m + 3 * h
  unfolding term
  heard_most = let w = middle_within pos ordered in omega (arith, heard_is_term, late_most h j o m (middle h l m) w.1)

  pub heard_by_least : heard_P h j o l m ≤ max o (l - 3 * h)
  unfolding term
  heard_by_least = omega (arith, heard_is_term)

  pub heard_by_most : min (o - j) (m + 3 * h) ≤ heard_P h j o l m
  unfolding term
  heard_by_most = omega (arith, heard_is_term, late_own h j o m (middle h l m))

pub heard_mono : {h : ℕ} → 0 < h → (j : ℕ) {o l m o' l' m' : ℕ} → l ≤ m → l' ≤ m' → o ≤ o' → l ≤ l' → m ≤ m' →
    heard_P h j o l m ≤ heard_P h j o' l' m'
unfolding term
heard_mono {h} pos j {o} {l} {m} {o'} {l'} {m'} ordered ordered' a b c =
    let i = late_mono h j a c (middle_mono pos ordered b c) in
    rw (heard_is_term pos j o ordered, heard_is_term pos j o' ordered') (omega arith)

pub heard_shift : (h j o l m n : ℕ) → heard_P h j (o + n) (l + n) (m + n) ≡ heard_P h j o l m + n
heard_shift h j o l m n =
    let M = middle h l m in
    let s = middle_shift h l m n in
    by_order (M + h) o
    (λ i. by_order o (M + h + j)
    (λ k. omega (arith, decides h j o l m i k, decides h j (o + n) (l + n) (m + n) (omega arith) (omega arith)))
    (λ k. omega (arith, hurries h j o l m k, hurries h j (o + n) (l + n) (m + n) (omega arith))))
    (λ i. omega (arith, waits h j o l m i, waits h j (o + n) (l + n) (m + n) (omega arith)))
