-- The laws of half a whole number and of a gap: a cast and one product with one half are exact, and a gap is in range.
-- Assumes nothing.
use mathlib.Core.Path.{◌≡◌, refl, sym, ap, ◌∙◌, subst}
use mathlib.Core.Bool.{Bool, true, false, or-true}
use Prim.Native.Nat.{ℕ, suc, ◌+◌, ◌-◌, ◌*◌, ◌^◌, ◌≤◌, ◌<◌}
use native.Mathlib.Nat.{mul_assoc, mul-one, mul-pos, mul-lt-mul_of_pos_right, lt_of_lt_of_le}
use native.Mathlib.Omega.{arith}
use lib.Dec.{T, ltb, lit≤, le→leb, lt→ltb}
use lib.Signed.{mag}
use lib.Pow.{pow_pos}
use lib.IntN.{ℤ, pos, negsuc, sub_ℕ, ◌-ℤ◌}
use lib.Ieee.{Float, nan, inf, fin, binary64, up, down, round, mul, of_int, in_float, of_bits, fits}
use lib.Ieee.Exact.{HasValue, round_exact}
use lib.Ieee.Fits.{down_pos, round-fits}
use lib.Ieee.Scale.{round_same}
use borrow.Author.Tests.{lt-ltb, le-ltb, ltb-false}
use Rattle.std.specs.Prelude.{Ok, Err}
use Rattle.settings.specs.declared.refusal.Refusal.TheVariants.{LateSide}
use Rattle.settings.proofs.Laws.Cases.{by_order}
use Rattle.rule.proofs.Laws.Signed.{minus, sub_pos, sub_neg}
use Rattle.seam.specs.Seam.{latest, half, halves, late, joined, seam_of}

-- one half, as the code's literal
pub one_half : of_bits binary64 0x3fe0_0000_0000_0000 ≡ fin false 1 (negsuc 0)
unfolding of_bits
one_half = refl

-- a number below 2^53, and half of it, are values of the format
whole_exact : (s : Bool) (n : ℕ) → n < 2 ^ 53 → HasValue (round binary64 s n 1) s n 1
whole_exact s n i =
    round_exact binary64 s n 1 n 1074 (omega arith) i
    (lt_of_lt_of_le (mul-lt-mul_of_pos_right i (pow_pos 1074)) (lit≤ tt))
    (sym (mul-one (n * 2 ^ 1074)))

pub half_exact : (s : Bool) (n : ℕ) → n < 2 ^ 53 → HasValue (round binary64 s n 2) s n 2
half_exact s n i =
    round_exact binary64 s n 2 n 1073 (omega arith) i
    (lt_of_lt_of_le (mul-lt-mul_of_pos_right i (pow_pos 1073)) (lit≤ tt))
    (sym (mul_assoc n (2 ^ 1073) 2))

-- the product of a number of a known size with one half
module _ (s : Bool) (m : ℕ) (e : ℤ) (n : ℕ) (v : m * up e * 1 ≡ n * down e) where
  same_fraction : (t : Bool) → t ≡ s → round binary64 t (m * up e * 1) (down e * 2) ≡ round binary64 s n 2
  same_fraction t p =
      ap (λ (b : Bool). round binary64 b (m * up e * 1) (down e * 2)) p
      ∙ round_same binary64 s (m * up e * 1) (down e * 2) n 2 (mul-pos (down_pos e) (omega arith)) (omega arith)
      (ap (λ (x : ℕ). x * 2) v ∙ mul_assoc n (down e) 2)

times_half : (x : Float) (s : Bool) (n : ℕ) → HasValue x s n 1 → mul binary64 x (fin false 1 (negsuc 0)) ≡ round binary64 s n 2
unfolding mul
times_half nan s n v = absurd v
times_half (inf t) s n v = absurd v
times_half (fin true m e) s n v = same_fraction s m e n v.1 true v.0
times_half (fin false m e) s n v = same_fraction s m e n v.1 false v.0

-- the code's half of a whole number is the definition's
pub halved : (z : ℤ) → mag z < 2 ^ 52 → mul binary64 (of_int binary64 z) (of_bits binary64 0x3fe0_0000_0000_0000) ≡ half z
unfolding half of_int
halved (pos n) i = rw one_half (times_half (round binary64 false n 1) false n (whole_exact false n (omega arith)))
halved (negsuc n) i = rw one_half (times_half (round binary64 true (suc n) 1) true (suc n) (whole_exact true (suc n) (omega arith)))

pub cast_whole : (z : ℤ) → mag z < 2 ^ 52 → T (in_float binary64 z)
unfolding in_float
cast_whole (pos n) i = le→leb n (2 ^ 53) (omega arith)
cast_whole (negsuc n) i = lt→ltb n (2 ^ 53) (omega arith)

-- half of a difference of naturals has its sign and half its size
pub half_sub : (a b : ℕ) → a < 2 ^ 52 → b < 2 ^ 52 → HasValue (half (sub_ℕ a b)) (ltb a b) (a - b + (b - a)) 2
unfolding half
half_sub a b i k =
    by_order b a
    (λ p. rw (sub_pos a b p, le-ltb a b p) (subst (λ (n : ℕ). HasValue (round binary64 false (a - b) 2) false n 2) (omega arith) (half_exact false (a - b) (omega arith))))
    (λ p. rw (sub_neg a b p, lt-ltb a b p)
    (subst (λ (n : ℕ). HasValue (round binary64 true (suc (b - suc a)) 2) true n 2) (omega arith) (half_exact true (suc (b - suc a)) (omega arith))))

pub half_fits : (z : ℤ) → T (fits binary64 (half z))
unfolding half
half_fits (pos n) = round-fits binary64 false n 2
half_fits (negsuc n) = round-fits binary64 true (suc n) 2

-- a gap of times up to the latest
pub gap_small : (a b : ℕ) → a ≤ latest → b ≤ latest → mag (pos a -ℤ pos b) < 2 ^ 52
gap_small a b i k =
    rw (minus a b)
    (by_order b a (λ p. rw (sub_pos a b p) (omega arith)) (λ p. rw (sub_neg a b p) (omega arith)))

-- the sum of two such times
pub sum_small : (a b : ℕ) → a ≤ latest → b ≤ latest → mag (pos (a + b)) < 2 ^ 52
sum_small a b i k = omega arith

-- which times are late
pub late_within : (t : ℕ) → late t false ≡ false → t ≤ latest
unfolding late
late_within t e = ltb-false latest t e

pub over_late : (t : ℕ) → latest < t → late t false ≡ true
unfolding late
over_late t i = lt-ltb latest t i

pub within_late : (t : ℕ) → t ≤ latest → late t false ≡ false
unfolding late
within_late t i = le-ltb latest t i

pub faulty_late : (t : ℕ) → late t true ≡ false
unfolding late
faulty_late t = refl

-- the answer by cases
module _ (l : ℕ) (lf : Bool) (r : ℕ) (rf : Bool) where
  pub refused_left : late l lf ≡ true → seam_of l lf r rf ≡ Err LateSide
  unfolding seam_of
  refused_left e = rw e

  pub refused_right : late r rf ≡ true → seam_of l lf r rf ≡ Err LateSide
  unfolding seam_of
  refused_right e = rw (e, or-true (late l lf))

  pub accepted : late l lf ≡ false → late r rf ≡ false → seam_of l lf r rf ≡ Ok (joined lf rf (halves l r))
  unfolding seam_of
  accepted d e = rw (d, e)
