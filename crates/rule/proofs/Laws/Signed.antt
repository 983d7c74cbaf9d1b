-- Whole numbers with a sign as differences of two naturals, `sub_ℕ a b`: their sums, order, larger and smaller are
-- linear facts of naturals. Assumes nothing.
use mathlib.Core.Path.{◌≡◌, refl, sym, ◌∙◌, ap, subst}
use mathlib.Core.Bool.{true, false}
use Prim.Native.Nat.{ℕ, zero, suc, ◌+◌, ◌-◌, ◌^◌, ◌≤◌, ◌<◌, min, max}
use native.Mathlib.Omega.{arith}
use lib.Dec.{T}
use lib.IntN.{pos, negsuc, neg_ℤ, sub_ℕ, ◌+ℤ◌, ◌-ℤ◌}
use lib.Signed.{lt_z, le_z, ◌≤ℤ◌, le_z_yes}
use mir.Syntax.{w64}
use mir.Val.{SFits}
use borrow.Author.Tests.{lt-ltb, le-ltb, le-leb, lt-leb}
use Rattle.rule.specs.Signed.{larger, smaller}
use Rattle.settings.proofs.Laws.Cases.{by_order}

pub sub_pos : (a b : ℕ) → b ≤ a → sub_ℕ a b ≡ pos (a - b)
sub_pos a b i = rw (le-ltb a b i)

pub sub_neg : (a b : ℕ) → a < b → sub_ℕ a b ≡ negsuc (b - suc a)
sub_neg a b i = rw (lt-ltb a b i)

pub sub_same : (a b c d : ℕ) → a + d ≡ c + b → sub_ℕ a b ≡ sub_ℕ c d
sub_same a b c d e =
    by_order b a
    (λ i. sub_pos a b i ∙ ap pos (omega arith) ∙ sym (sub_pos c d (omega arith)))
    (λ i. sub_neg a b i ∙ ap negsuc (omega arith) ∙ sym (sub_neg c d (omega arith)))

pub minus : (a b : ℕ) → pos a -ℤ pos b ≡ sub_ℕ a b
minus a zero = ap pos (omega arith) ∙ sym (sub_pos a 0 (omega arith))
minus a (suc b) = refl

pub sub_plus : (a b n : ℕ) → sub_ℕ a b +ℤ pos n ≡ sub_ℕ (a + n) b
sub_plus a b n =
    by_order b a
    (λ i. rw (sub_pos a b i) (ap pos (omega arith) ∙ sym (sub_pos (a + n) b (omega arith))))
    (λ i. rw (sub_neg a b i) (sub_same n (suc (b - suc a)) (a + n) b (omega arith)))

pub sub_minus : (a b n : ℕ) → sub_ℕ a b -ℤ pos n ≡ sub_ℕ a (b + n)
sub_minus a b zero = sub_plus a b 0 ∙ sub_same (a + 0) b a (b + 0) (omega arith)
sub_minus a b (suc n) =
    by_order b a
    (λ i. rw (sub_pos a b i) (sub_same (a - b) (suc n) a (b + suc n) (omega arith)))
    (λ i. rw (sub_neg a b i) (ap negsuc (omega arith) ∙ sym (sub_neg a (b + suc n) (omega arith))))

pub minus_sub : (a b c : ℕ) → pos a -ℤ sub_ℕ b c ≡ sub_ℕ (a + c) b
minus_sub a b c =
    by_order c b
    (λ i. rw (sub_pos b c i) (minus a (b - c) ∙ sub_same a (b - c) (a + c) b (omega arith)))
    (λ i. rw (sub_neg b c i) (ap pos (omega arith) ∙ sym (sub_pos (a + c) b (omega arith))))

module _ (a b c d : ℕ) where
  pub sub_le : a + d ≤ c + b → le_z (sub_ℕ a b) (sub_ℕ c d) ≡ true
  sub_le i =
      by_order b a
      (λ p. rw (sub_pos a b p, sub_pos c d (omega arith)) (le-leb (a - b) (c - d) (omega arith)))
      (λ p. by_order d c
      (λ q. rw (sub_neg a b p, sub_pos c d q))
      (λ q. rw (sub_neg a b p, sub_neg c d q) (le-leb (d - suc c) (b - suc a) (omega arith))))

  pub sub_≤ : a + d ≤ c + b → sub_ℕ a b ≤ℤ sub_ℕ c d
  sub_≤ i = le_z_yes (subst T (sym (sub_le i)) tt)

  pub sub_not_le : c + b < a + d → le_z (sub_ℕ a b) (sub_ℕ c d) ≡ false
  sub_not_le i =
      by_order d c
      (λ q. rw (sub_pos a b (omega arith), sub_pos c d q) (lt-leb (a - b) (c - d) (omega arith)))
      (λ q. by_order b a
      (λ p. rw (sub_pos a b p, sub_neg c d q))
      (λ p. rw (sub_neg a b p, sub_neg c d q) (lt-leb (d - suc c) (b - suc a) (omega arith))))

  pub sub_larger : larger (sub_ℕ a b) (sub_ℕ c d) ≡ sub_ℕ (max (a + d) (c + b)) (b + d)
  unfolding larger
  sub_larger =
      by_order (a + d) (c + b)
      (λ i. rw (sub_le i) (sub_same c d (max (a + d) (c + b)) (b + d) (omega arith)))
      (λ i. rw (sub_not_le i) (sub_same a b (max (a + d) (c + b)) (b + d) (omega arith)))

  pub sub_smaller : smaller (sub_ℕ a b) (sub_ℕ c d) ≡ sub_ℕ (min (a + d) (c + b)) (b + d)
  unfolding smaller
  sub_smaller =
      by_order (a + d) (c + b)
      (λ i. rw (sub_le i) (sub_same a b (min (a + d) (c + b)) (b + d) (omega arith)))
      (λ i. rw (sub_not_le i) (sub_same c d (min (a + d) (c + b)) (b + d) (omega arith)))

-- the sign of a difference
pub sub_negative : (a b : ℕ) → a < b → lt_z (sub_ℕ a b) (pos 0) ≡ true
sub_negative a b i = rw (sub_neg a b i)

pub sub_not_negative : (a b : ℕ) → b ≤ a → lt_z (sub_ℕ a b) (pos 0) ≡ false
sub_not_negative a b i = rw (sub_pos a b i) (le-ltb (a - b) 0 (omega arith))

-- a natural as a difference, and its negative
pub pos_sub : (n : ℕ) → pos n ≡ sub_ℕ n 0
pos_sub n = sym (sub_pos n 0 (omega arith) ∙ ap pos (omega arith))

pub neg_sub : (n : ℕ) → neg_ℤ (pos n) ≡ sub_ℕ 0 n
neg_sub zero = refl
neg_sub (suc n) = sym (sub_neg 0 (suc n) (omega arith) ∙ ap negsuc (omega arith))

-- the difference of two naturals below 2^63 is an i64
pub minus_fits : (a b : ℕ) → a < 2 ^ 63 → b < 2 ^ 63 → SFits w64 (pos a -ℤ pos b)
minus_fits a b i k =
    rw (minus a b)
    (by_order b a
    (λ p. rw (sub_pos a b p) (record { sfits = omega arith }))
    (λ p. rw (sub_neg a b p) (record { sfits = omega arith })))
