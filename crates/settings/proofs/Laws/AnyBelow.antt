-- Some number below a bound: found at one, none so far, none at all, and the same for two conditions that agree. Assumes nothing.
use mathlib.Core.Path.{◌≡◌, refl}
use mathlib.Core.Bool.{Bool, true, false, or-true}
use Prim.Native.Nat.{ℕ, zero, suc, ◌+◌, ◌≤◌, ◌<◌}
use native.Mathlib.Numerals.{add-one}
use native.Mathlib.Omega.{arith}
use Rattle.settings.specs.Refusal.{any_below}
use Rattle.settings.proofs.Laws.Cases.{by_order}
use Rattle.settings.proofs.Laws.Refusal.{neither}

module _ (f : ℕ → Bool) where
  pub some_below : (n k : ℕ) → k < n → f k ≡ true → any_below n f ≡ true
  unfolding any_below
  some_below zero k i e = let never : ⊥ = omega arith in absurd never
  some_below (suc n) k i e =
      by_order n k
      (λ p. let here : k ≡ n = omega arith in rw (← here, e) (or-true (any_below k f)))
      (λ p. rw (some_below n k p e))

  pub none_below : (n k : ℕ) → k < n → any_below n f ≡ false → f k ≡ false
  unfolding any_below
  none_below zero k i e = let never : ⊥ = omega arith in absurd never
  none_below (suc n) k i e =
      let b = neither (any_below n f) (f n) e in
      by_order n k
      (λ p. let here : k ≡ n = omega arith in rw here b.1)
      (λ p. none_below n k p b.0)

  pub none_below_more : (n : ℕ) → any_below n f ≡ false → f n ≡ false → any_below (n + 1) f ≡ false
  unfolding any_below
  none_below_more n e h = rw (add-one, e, h)

  pub none_till : (n : ℕ) → ((k : ℕ) → k < n → f k ≡ false) → any_below n f ≡ false
  unfolding any_below
  none_till zero h = refl
  none_till (suc n) h = rw (none_till n (λ k i. h k (omega arith)), h n (omega arith))

  pub none_at_zero : any_below 0 f ≡ false
  unfolding any_below
  none_at_zero = refl

pub same_below : (f g : ℕ → Bool) (n : ℕ) → ((k : ℕ) → k < n → f k ≡ g k) → any_below n f ≡ any_below n g
unfolding any_below
same_below f g zero h = refl
same_below f g (suc n) h = rw (same_below f g n (λ k i. h k (omega arith)), h n (omega arith))

pub none_below_on : (f : ℕ → Bool) (n m : ℕ) → any_below n f ≡ false → ((k : ℕ) → n ≤ k → k < m → f k ≡ false) → any_below m f ≡ false
none_below_on f n m e h =
    none_till f m (λ k i. by_order n k (λ p. h k p i) (λ p. none_below f n k p e))
