-- A quotient rounded up is the least number that times the divisor reaches the dividend. Assumes nothing.
use mathlib.Core.Path.{◌≡◌}
use Prim.Native.Nat.{ℕ, ◌+◌, ◌-◌, ◌*◌, ◌≤◌, ◌<◌}
use native.Mathlib.Nat.{div-add-mod', mod-lt, lt_of_mul-lt-mul_right}
use native.Mathlib.Omega.{arith}
use Rattle.std.specs.Prelude.{◌/◌, ◌%◌, min}
use Rattle.std.proofs.lemmas.Grind.{div_ceil_times}
use Rattle.settings.specs.Rounding.{up}

module _ (a : ℕ) {b : ℕ} (pos : 0 < b) where
  pub up_reaches : a ≤ up a b * b
  unfolding up
  up_reaches = omega (arith, div-add-mod' (a + b - 1) b, mod-lt (a + b - 1) pos)

  pub up_least : up a b * b < a + b
  unfolding up
  up_least = omega (arith, div-add-mod' (a + b - 1) b)

  -- it is what the library's `div_ceil` gives
  pub up_is : a / b + min 1 (a % b) ≡ up a b
  up_is =
      let ceiled = a / b + min 1 (a % b) in
      let times = div_ceil_times a b pos in
      let most : up a b * b < (ceiled + 1) * b = omega (arith, up_least, times) in
      let least : ceiled * b < (up a b + 1) * b = omega (arith, up_reaches, times) in
      omega (arith, lt_of_mul-lt-mul_right b most, lt_of_mul-lt-mul_right b least)

pub up_mono : {a c b : ℕ} → 0 < b → a ≤ c → up a b ≤ up c b
up_mono {a} {c} {b} pos h =
    let below : up a b * b < (up c b + 1) * b = omega (arith, up_least a pos, up_reaches c pos) in
    omega (arith, lt_of_mul-lt-mul_right b below)
