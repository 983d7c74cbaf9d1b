-- The middle is the largest over s of the smaller of most - 8hs and least + 8hs; it grows with both and moves with both. Assumes nothing.
use mathlib.Core.Path.{◌≡◌}
use Prim.Native.Nat.{ℕ, suc, ◌+◌, ◌-◌, ◌*◌, ◌/◌, ◌%◌, ◌≤◌, ◌<◌, min}
use native.Mathlib.Nat.{div-add-mod, mod-lt, mul-le-mul_left, add-div_right, add-mod_right, div-eq_of_lt, mod-eq_of_lt}
use native.Mathlib.Omega.{arith}
use Rattle.rule.specs.Closed.{lift, middle}
use Rattle.settings.proofs.Laws.Cases.{by_order}

-- the s that gives the most: the whole turns of 16h in g, and one more past the half of a turn
pub record Turn (h g : ℕ) : Type 0 where
  pub s : ℕ
  pub within : 8 * h * s ≤ g
  pub attained : lift h g ≡ min (g - 8 * h * s) (8 * h * s)

module _ {h : ℕ} (pos : 0 < h) where
  -- no s gives more
  pub lift_most : (g s : ℕ) → min (g - 8 * h * s) (8 * h * s) ≤ lift h g
  unfolding lift
  lift_most g s =
      by_order s (g / (16 * h))
      (λ i. omega (arith, mul-le-mul_left (8 * h) i))
      (λ i. omega (arith, mul-le-mul_left (8 * h) i, div-add-mod g (16 * h)))

  -- and some s gives it
  pub lift_turn : (g : ℕ) → Turn h g
  unfolding lift
  lift_turn g =
      by_order (g % (16 * h)) (8 * h)
      (λ i. record { s = g / (16 * h); within = omega (arith, whole); attained = omega (arith, whole) })
      (λ i. record { s = suc (g / (16 * h)); within = omega (arith, whole); attained = omega (arith, whole, part) })
    where
      whole : 16 * h * (g / (16 * h)) + g % (16 * h) ≡ g
      whole = div-add-mod g (16 * h)

      part : g % (16 * h) < 16 * h
      part = mod-lt g (omega arith)

  -- the middle lies from g / 2 - 4h to g / 2 above the least
  pub lift_half : (g : ℕ) → (g ≤ 2 * lift h g + 8 * h) × (2 * lift h g ≤ g)
  unfolding lift
  lift_half g = omega (arith, div-add-mod g (16 * h), mod-lt g {m = 16 * h} (omega arith))

  -- a larger gap lifts the middle more, by at most as much as the gap grows
  pub lift_mono : {g k : ℕ} → g ≤ k → lift h g ≤ lift h k
  lift_mono {g} {k} i = let t = lift_turn g in omega (arith, lift_most k t.s, t.attained)

  pub lift_grows : {g k : ℕ} → g ≤ k → lift h k + g ≤ lift h g + k
  lift_grows {g} {k} i = let t = lift_turn k in omega (arith, lift_most g t.s, t.attained)

  -- a turn more lifts by half a turn
  pub lift_period : (g : ℕ) → lift h (g + 16 * h) ≡ lift h g + 8 * h
  unfolding lift
  lift_period g =
      let turn : 0 < 16 * h = omega arith in
      rw (add-div_right g {k = 16 * h} turn, add-mod_right g (16 * h)) (omega arith)

  pub middle_within : {l m : ℕ} → l ≤ m → (l ≤ middle h l m) × (middle h l m ≤ m)
  unfolding middle
  middle_within {l} {m} i = omega (arith, lift_half (m - l))

  pub middle_mono : {l m l' m' : ℕ} → l ≤ m → l ≤ l' → m ≤ m' → middle h l m ≤ middle h l' m'
  unfolding middle
  middle_mono {l} {m} {l'} {m'} i a b =
      by_order (m - l) (m' - l')
      (λ g. omega (arith, lift_mono g))
      (λ g. omega (arith, lift_grows {g = m' - l'} {k = m - l} (omega arith)))

pub middle_shift : (h l m n : ℕ) → middle h (l + n) (m + n) ≡ middle h l m + n
unfolding middle
middle_shift h l m n = rw gap (omega arith)
  where
    gap : m + n - (l + n) ≡ m - l
    gap = omega arith

-- below one turn no division is needed
pub lift_small : (h g : ℕ) → g < 16 * h → lift h g ≡ g - 8 * h
unfolding lift
lift_small h g i = rw (div-eq_of_lt i, mod-eq_of_lt i) (omega arith)
