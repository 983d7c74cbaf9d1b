-- What holds of each column that a test takes holds of the list of them, mapped or counted. Assumes nothing.
use mathlib.Core.Path.{◌≡◌, refl, sym, ◌∙◌, ap}
use mathlib.Core.Bool.{Bool, true, false, cond, true≢false}
use mathlib.Core.List.{List, [], ◌∷◌, ◌++◌, map}
use Prim.Native.Nat.{ℕ, zero, suc, ◌+◌, ◌≤◌, ◌<◌}
use lib.ListN.{length, get_or}
use native.Mathlib.Omega.{arith}
use Rattle.rule.specs.Stamp.{Stamp, ◌≼◌, ◌≼*◌, none, both, All, more, AllButOne, this, later_on}
use Rattle.settings.proofs.Laws.Cases.{by_equal}
use Rattle.settings.proofs.Laws.Refusal.{neither}
use Rattle.columns.specs.Columns.{columns_from, table_from, any_of}

-- a claim by a test
pub by_test {ℓ} : {C : Type ℓ} (b : Bool) → (b ≡ true → C) → (b ≡ false → C) → C
by_test true f g = f refl
by_test false f g = g refl

module _ (f : ℕ → Bool) where
  -- a claim of each column from a on, n of them, that f takes
  abbrev pub Each : (n a : ℕ) → (ℕ → Type 0) → Type 0
  Each n a Q = (k : ℕ) → a ≤ k → k < a + n → f k ≡ true → Q k

  fewer : {Q : ℕ → Type 0} (n a : ℕ) → Each (suc n) a Q → Each n (suc a) Q
  fewer n a h k i j t = h k (omega arith) (omega arith) t

  -- a claim of a list of columns, by whether the first is taken
  pick : (P : List ℕ → Type 0) (n a : ℕ) → (f a ≡ true → P (a ∷ columns_from n (suc a) f)) → (f a ≡ false → P (columns_from n (suc a) f)) →
      P (columns_from (suc n) a f)
  unfolding columns_from
  pick P n a yes_f no_f = go (f a) refl
    where
      go : (t : Bool) → f a ≡ t → P (cond t (a ∷ columns_from n (suc a) f) (columns_from n (suc a) f))
      go true e = yes_f e
      go false e = no_f e

  first_of : {Q : ℕ → Type 0} (n a : ℕ) → Each (suc n) a Q → f a ≡ true → Q a
  first_of n a h t = h a (omega arith) (omega arith) t

  module _ (g h : ℕ → Stamp) where
    pub columns_same : (n a : ℕ) → Each n a (λ k. g k ≡ h k) → map g (columns_from n a f) ≡ map h (columns_from n a f)
    unfolding columns_from
    columns_same zero a e = refl
    columns_same (suc n) a e =
        pick (λ l. map g l ≡ map h l) n a
        (λ t. rw (first_of n a e t, columns_same n (suc a) (fewer n a e)))
        (λ t. columns_same n (suc a) (fewer n a e))

    pub columns_ordered : (n a : ℕ) → Each n a (λ k. g k ≼ h k) → map g (columns_from n a f) ≼* map h (columns_from n a f)
    unfolding columns_from
    columns_ordered zero a e = none
    columns_ordered (suc n) a e =
        pick (λ l. map g l ≼* map h l) n a
        (λ t. both (first_of n a e t) (columns_ordered n (suc a) (fewer n a e)))
        (λ t. columns_ordered n (suc a) (fewer n a e))

  module _ (Q : Stamp → Type 0) (g : ℕ → Stamp) where
    pub columns_all : (n a : ℕ) → Each n a (λ k. Q (g k)) → All Q (map g (columns_from n a f))
    unfolding columns_from
    columns_all zero a e = none
    columns_all (suc n) a e =
        pick (λ l. All Q (map g l)) n a
        (λ t. more (first_of n a e t) (columns_all n (suc a) (fewer n a e)))
        (λ t. columns_all n (suc a) (fewer n a e))

    pub columns_but_one : (j n a : ℕ) → a ≤ j → j < a + n → f j ≡ true → Each n a (λ k. (k ≡ j → ⊥) → Q (g k)) →
        AllButOne Q (map g (columns_from n a f))
    unfolding columns_from
    columns_but_one j zero a i l y e = let never : ⊥ = omega arith in absurd never
    columns_but_one j (suc n) a i l y e =
        by_equal a j
        (λ q. pick (λ l. AllButOne Q (map g l)) n a
        (λ t. this (columns_all n (suc a) (λ k m o u. e k (omega arith) (omega arith) u (omega arith))))
        (λ t. absurd (true≢false (sym y ∙ ap f (sym q) ∙ t))))
        (λ q. pick (λ l. AllButOne Q (map g l)) n a
        (λ t. later_on (e a (omega arith) (omega arith) t q) (columns_but_one j n (suc a) (omega arith) (omega arith) y (λ k m o u. e k (omega arith) (omega arith) u)))
        (λ t. columns_but_one j n (suc a) (omega arith) (omega arith) y (λ k m o u. e k (omega arith) (omega arith) u)))

  pub none_of : (h : ℕ → Bool) (n a : ℕ) → any_of (columns_from n a f) h ≡ false → Each n a (λ k. h k ≡ false)
  unfolding columns_from any_of
  none_of h zero a e k i j t = let never : ⊥ = omega arith in absurd never
  none_of h (suc n) a e k i j t =
      pick (λ l. any_of l h ≡ false → h k ≡ false) n a
      (λ p r. let b = neither (h a) (any_of (columns_from n (suc a) f) h) r in
      by_equal a k (λ q. ap h (sym q) ∙ b.0) (λ q. none_of h n (suc a) b.1 k (omega arith) (omega arith) t))
      (λ p r. by_equal a k
      (λ q. absurd (true≢false (sym t ∙ ap f (sym q) ∙ p)))
      (λ q. none_of h n (suc a) r k (omega arith) (omega arith) t))
      e

-- a table's length and entries
module _ (f : ℕ → ℕ) where
  pub table_length : (n a : ℕ) → length (table_from n a f) ≡ n
  unfolding table_from
  table_length zero a = refl
  table_length (suc n) a = ap suc (table_length n (suc a))

  pub table_at : (n a c : ℕ) → c < n → get_or (table_from n a f) c 0 ≡ f (a + c)
  unfolding table_from
  table_at zero a c i = let never : ⊥ = omega arith in absurd never
  table_at (suc n) a zero i = ap f (omega arith)
  table_at (suc n) a (suc c) i = table_at n (suc a) c (omega arith) ∙ ap f (omega arith)

  pub table_grows : (n a : ℕ) → table_from (suc n) a f ≡ table_from n a f ++ (f (a + n) ∷ [])
  unfolding table_from
  table_grows zero a = let e : a + 0 ≡ a = omega arith in rw e
  table_grows (suc n) a = let e : a + suc n ≡ suc a + n = omega arith in rw e (ap (λ (l : List ℕ). f a ∷ l) (table_grows n (suc a)))
