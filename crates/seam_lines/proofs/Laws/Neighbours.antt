-- The neighbours on the right of a column: the next, and the one after it where the column is the first or the third from the
-- last. Assumes nothing.
use mathlib.Core.Path.{◌≡◌, refl, sym, ◌∙◌, ap}
use mathlib.Core.Bool.{Bool, true, false, cond, ◌&&◌}
use mathlib.Core.List.{List, [], ◌∷◌, ◌++◌, append-nil}
use mathlib.Core.Logic.{◌⊎◌, inl, inr}
use Prim.Native.Nat.{ℕ, zero, suc, ◌+◌, ◌-◌, ◌≤◌, ◌<◌}
use native.Mathlib.Omega.{arith}
use lib.Dec.{ltb}
use borrow.Author.Tests.{lt-ltb, le-ltb}
use Rattle.settings.proofs.Laws.Cases.{by_equal}
use Rattle.columns.specs.Columns.{are_neighbours, columns_from, neighbours}
use Rattle.columns.proofs.Laws.Columns.{neighbours_first, neighbours_third, neighbours_third_last, neighbours_last, neighbours_inner}
use Rattle.lines.specs.Row.{each_of, right_neighbours}

-- the columns of a list that are past a column
past : (a : ℕ) → List ℕ → List ℕ
past a [] = []
past a (k ∷ ks) = cond (ltb a k) (k ∷ past a ks) (past a ks)

past_in : (a k : ℕ) (ks : List ℕ) → a < k → past a (k ∷ ks) ≡ k ∷ past a ks
unfolding past
past_in a k ks i = rw (lt-ltb a k i)

past_out : (a k : ℕ) (ks : List ℕ) → k ≤ a → past a (k ∷ ks) ≡ past a ks
unfolding past
past_out a k ks i = rw (le-ltb a k i)

past_none : (a : ℕ) → past a [] ≡ []
unfolding past
past_none a = refl

columns_past : (a : ℕ) (f : ℕ → Bool) (n c : ℕ) → columns_from n c (λ b. ltb a b && f b) ≡ past a (columns_from n c f)
unfolding columns_from past
columns_past a f zero c = refl
columns_past a f (suc n) c = go (ltb a c) refl (f c) refl (columns_past a f n (suc c))
  where
    xs : List ℕ
    xs = columns_from n (suc c) (λ b. ltb a b && f b)

    ys : List ℕ
    ys = columns_from n (suc c) f

    go : (p : Bool) → ltb a c ≡ p → (q : Bool) → f c ≡ q → xs ≡ past a ys → cond (p && q) (c ∷ xs) xs ≡ past a (cond q (c ∷ ys) ys)
    go true e true d i = rw e (ap (λ (l : List ℕ). c ∷ l) i)
    go true e false d i = i
    go false e true d i = rw e i
    go false e false d i = i

module _ (w a : ℕ) where
  of_neighbours : right_neighbours w a ≡ past a (neighbours w a)
  unfolding right_neighbours neighbours
  of_neighbours = columns_past a (are_neighbours w a) w 0

  -- of neighbours before the column and after it
  one_past : (k m : ℕ) → neighbours w a ≡ k ∷ m ∷ [] → k ≤ a → a < m → right_neighbours w a ≡ m ∷ []
  one_past k m e i j = of_neighbours ∙ rw (e, past_out a k (m ∷ []) i, past_in a m [] j, past_none a)

  pub right_none : 6 ≤ w → a + 1 ≡ w → right_neighbours w a ≡ []
  right_none i e =
      of_neighbours
      ∙ rw (neighbours_last w i a e, past_out a (a - 2) ((a - 1) ∷ []) (omega arith), past_out a (a - 1) [] (omega arith), past_none a)

  both_past : (k m : ℕ) → a < k → a < m → past a (k ∷ m ∷ []) ≡ k ∷ m ∷ []
  both_past k m i j = past_in a k (m ∷ []) i ∙ ap (λ (l : List ℕ). k ∷ l) (past_in a m [] j ∙ ap (λ (l : List ℕ). m ∷ l) (past_none a))

  both_past_first : a ≡ 0 → past 0 (1 ∷ 2 ∷ []) ≡ 1 ∷ 2 ∷ []
  unfolding past
  both_past_first e = refl

  pub right_two : 6 ≤ w → (a ≡ 0) ⊎ (a + 3 ≡ w) → right_neighbours w a ≡ (a + 1) ∷ (a + 2) ∷ []
  right_two i (inl e) = of_neighbours ∙ rw (e, neighbours_first w i) (both_past_first e)
  right_two i (inr e) =
      of_neighbours
      ∙ rw (neighbours_third_last w i a e, past_out a (a - 1) ((a + 1) ∷ (a + 2) ∷ []) (omega arith)) (both_past (a + 1) (a + 2) (omega arith) (omega arith))

  third_of_three : past 2 (0 ∷ 1 ∷ 3 ∷ []) ≡ 3 ∷ []
  unfolding past
  third_of_three = refl

  pub right_one : 6 ≤ w → (a ≡ 0 → ⊥) → (a + 3 ≡ w → ⊥) → a + 1 < w → right_neighbours w a ≡ (a + 1) ∷ []
  right_one i m n j =
      by_equal a 2
      (λ e. of_neighbours ∙ third_past e)
      (λ e. one_past (a - 1) (a + 1) (neighbours_inner w i a (omega arith) e n j) (omega arith) (omega arith))
    where
      third_past : a ≡ 2 → past a (neighbours w a) ≡ (a + 1) ∷ []
      third_past e = rw (e, neighbours_third w i) third_of_three

-- the text of each of those
module _ (f : ℕ → List ℕ) where
  pub text_none : (ks : List ℕ) → ks ≡ [] → [] ≡ each_of ks f
  unfolding each_of
  text_none ks e = rw e

  pub text_one : (ks : List ℕ) (k : ℕ) → ks ≡ k ∷ [] → f k ≡ each_of ks f
  unfolding each_of
  text_one ks k e = rw e (sym (append-nil (f k)))

  pub text_two : (ks : List ℕ) (k m : ℕ) → ks ≡ k ∷ m ∷ [] → f k ++ f m ≡ each_of ks f
  unfolding each_of
  text_two ks k m e = rw e (ap (λ (l : List ℕ). f k ++ l) (sym (append-nil (f m))))
