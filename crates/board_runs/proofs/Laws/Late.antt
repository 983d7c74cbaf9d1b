-- A stamp that comes later than P + A does not matter: P is what it would be with silence in its place. Assumes nothing.
--
-- Throughout: unit h, step j (§2.4), hold A, own o, the earliest and latest neighbour l ≤ m.
use mathlib.Core.Path.{◌≡◌}
use Prim.Native.Nat.{ℕ, ◌+◌, ◌-◌, ◌*◌, ◌≤◌, ◌<◌, max}
use native.Mathlib.Omega.{arith}
use Rattle.settings.proofs.Laws.Cases.{by_order}
use Rattle.rule.specs.Closed.{middle, heard_P}
use Rattle.rule.proofs.Laws.Heard.{waits, decides, hurries}
use Rattle.rule.proofs.Laws.Middle.{lift_half, middle_within}

module _ {h : ℕ} (pos : 0 < h) (j A o : ℕ) {l m : ℕ} (ordered : l ≤ m) where
  -- own's
  pub own_late : j ≤ A → heard_P h j o l m + A < o → heard_P h j o l m ≡ m + 3 * h
  own_late small late =
      let M = middle h l m in
      by_order (M + h) o
      (λ i. by_order o (M + h + j)
      (λ k. let never : ⊥ = omega (arith, decides h j o l m i k) in absurd never)
      (λ k. omega (arith, hurries h j o l m k)))
      (λ i. let never : ⊥ = omega (arith, waits h j o l m i) in absurd never)

  -- the middle is no more than 4h below the mean of the neighbours
  halfway : m + l ≤ 2 * middle h l m + 8 * h
  unfolding middle
  halfway = omega (arith, lift_half pos (m - l))

  -- a neighbour's, where own is near the earliest: A - 6h would do
  pub most_late : o + 6 * h ≤ l + A → heard_P h j o l m + A < m → heard_P h j o l m ≡ max o (l - 3 * h)
  most_late near late =
      let M = middle h l m in
      by_order (M + h) o
      (λ i. by_order o (M + h + j)
      (λ k. let never : ⊥ = omega (arith, decides h j o l m i k, halfway) in absurd never)
      (λ k. let never : ⊥ = omega (arith, hurries h j o l m k, halfway, middle_within pos ordered) in absurd never))
      (λ i. waits h j o l m i)
