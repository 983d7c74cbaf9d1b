-- Columns in closed form: the neighbours and predecessors of each column, and where its links stand. Assumes nothing.
use mathlib.Core.Path.{◌≡◌, refl, sym, ◌∙◌, ap}
use mathlib.Core.Bool.{Bool, true, false, cond, ◌&&◌, ◌||◌}
use mathlib.Core.List.{List, [], ◌∷◌}
use mathlib.Core.Logic.{◌⊎◌, inl, inr}
use Prim.Native.Nat.{ℕ, zero, suc, ◌+◌, ◌-◌, ◌*◌, ◌≤◌, ◌<◌}
use lib.Dec.{eqb}
use lib.ListN.{length}
use native.Mathlib.Decide.{ℕ_discrete}
use native.Mathlib.Omega.{arith}
use borrow.Author.Tests.{eq-eqb, ne_eqb, eqb-true, le-leb, lt-leb}
use Rattle.settings.proofs.Laws.Cases.{by_order}
use Rattle.columns.specs.Columns.{are_neighbours, columns_from, neighbours, is_predecessor, predecessors, links_before, place_in, link_place}
use Rattle.columns.specs.Window.{first_sender, four_senders, window}

-- tests that hold and tests that don't
or_left : {a : Bool} (b : Bool) → a ≡ true → (a || b) ≡ true
or_left b e = rw e

or_right : (a : Bool) {b : Bool} → b ≡ true → (a || b) ≡ true
or_right true e = refl
or_right false e = e

or_neither : {a b : Bool} → a ≡ false → b ≡ false → (a || b) ≡ false
or_neither e f = rw (e, f)

both_equal : (a b c d : ℕ) → a ≡ b → c ≡ d → (eqb a b && eqb c d) ≡ true
both_equal a b c d e f = rw (eq-eqb a b e, eq-eqb c d f)

not_both : (a b c d : ℕ) → (a ≡ b → c ≡ d → ⊥) → (eqb a b && eqb c d) ≡ false
not_both a b c d n = pick (eqb a b) refl (eqb c d) refl
  where
    pick : (p : Bool) → eqb a b ≡ p → (q : Bool) → eqb c d ≡ q → (p && q) ≡ false
    pick true e true f = absurd (n (eqb-true a b e) (eqb-true c d f))
    pick true e false f = refl
    pick false e q f = refl

-- which columns are neighbours
module _ (w a b : ℕ) where
  pub next : suc a ≡ b → are_neighbours w a b ≡ true
  unfolding are_neighbours
  next e = or_left _ (or_left _ (eq-eqb (suc a) b e))

  pub previous : suc b ≡ a → are_neighbours w a b ≡ true
  unfolding are_neighbours
  previous e = or_left _ (or_right (eqb (suc a) b) (eq-eqb (suc b) a e))

  pub first_third : a ≡ 0 → b ≡ 2 → are_neighbours w a b ≡ true
  unfolding are_neighbours
  first_third e f = or_right (eqb (suc a) b || eqb (suc b) a) (or_left _ (or_left _ (both_equal a 0 b 2 e f)))

  pub third_first : a ≡ 2 → b ≡ 0 → are_neighbours w a b ≡ true
  unfolding are_neighbours
  third_first e f = or_right (eqb (suc a) b || eqb (suc b) a) (or_left _ (or_right (eqb a 0 && eqb b 2) (both_equal a 2 b 0 e f)))

  pub third_last : a + 3 ≡ w → suc b ≡ w → are_neighbours w a b ≡ true
  unfolding are_neighbours
  third_last e f =
      or_right (eqb (suc a) b || eqb (suc b) a)
      (or_right ((eqb a 0 && eqb b 2) || (eqb a 2 && eqb b 0)) (or_left _ (both_equal (a + 3) w (suc b) w e f)))

  pub last_third : suc a ≡ w → b + 3 ≡ w → are_neighbours w a b ≡ true
  unfolding are_neighbours
  last_third e f =
      or_right (eqb (suc a) b || eqb (suc b) a)
      (or_right ((eqb a 0 && eqb b 2) || (eqb a 2 && eqb b 0))
      (or_right (eqb (a + 3) w && eqb (suc b) w) (both_equal (suc a) w (b + 3) w e f)))

  -- in none of the ways
  abbrev pub Strange : Type 0
  Strange =
      (suc a ≡ b → ⊥) × (suc b ≡ a → ⊥) × (a ≡ 0 → b ≡ 2 → ⊥) × (a ≡ 2 → b ≡ 0 → ⊥) × (a + 3 ≡ w → suc b ≡ w → ⊥) × (suc a ≡ w → b + 3 ≡ w → ⊥)

  pub strangers : Strange → are_neighbours w a b ≡ false
  unfolding are_neighbours
  strangers n =
      or_neither (or_neither (ne_eqb (suc a) b n.0) (ne_eqb (suc b) a n.1))
      (or_neither (or_neither (not_both a 0 b 2 n.2) (not_both a 2 b 0 n.3))
      (or_neither (not_both (a + 3) w (suc b) w n.4) (not_both (suc a) w (b + 3) w n.5)))

-- the columns from a to e, e left out, for which f holds
between : (ℕ → Bool) → (a e : ℕ) → List ℕ
between f a e = columns_from (e - a) a f

module _ (f : ℕ → Bool) where
  all_of : (w : ℕ) → columns_from w 0 f ≡ between f 0 w
  unfolding between
  all_of w = ap (λ (n : ℕ). columns_from n 0 f) (omega arith)

  none_left : (a : ℕ) → between f a a ≡ []
  unfolding between columns_from
  none_left a = let z : a - a ≡ 0 = omega arith in rw z

  step : (a e : ℕ) → a < e → between f a e ≡ cond (f a) (a ∷ between f (suc a) e) (between f (suc a) e)
  unfolding between columns_from
  step a e i = let z : e - a ≡ suc (e - suc a) = omega arith in rw z

  taken : (a e : ℕ) → a < e → f a ≡ true → between f a e ≡ a ∷ between f (suc a) e
  taken a e i t = step a e i ∙ rw t

  -- past n columns that are not taken
  past : (n a e : ℕ) → a + n ≤ e → ((k : ℕ) → a ≤ k → k < a + n → f k ≡ false) → between f a e ≡ between f (a + n) e
  past zero a e i out = ap (λ (b : ℕ). between f b e) (omega arith)
  past (suc n) a e i out =
      step a e (omega arith)
      ∙ rw (out a (omega arith) (omega arith))
      (past n (suc a) e (omega arith) (λ k p q. out k (omega arith) (omega arith)) ∙ ap (λ (b : ℕ). between f b e) (omega arith))

  missed : (a b e : ℕ) → a ≤ b → b ≤ e → ((k : ℕ) → a ≤ k → k < b → f k ≡ false) → between f a e ≡ between f b e
  missed a b e i j out = past (b - a) a e (omega arith) (λ k p q. out k p (omega arith)) ∙ ap (λ (d : ℕ). between f d e) (omega arith)

  no_more : (a e : ℕ) → a ≤ e → ((k : ℕ) → a ≤ k → k < e → f k ≡ false) → between f a e ≡ []
  no_more a e i out = missed a e e i (omega arith) out ∙ none_left e

-- two columns taken of all, and three
module _ (f : ℕ → Bool) (w : ℕ) where
  two_taken : (a b : ℕ) → a < b → b < w → f a ≡ true → f b ≡ true → ((k : ℕ) → k < w → (k ≡ a → ⊥) → (k ≡ b → ⊥) → f k ≡ false) →
      columns_from w 0 f ≡ a ∷ b ∷ []
  two_taken a b i j p q out =
      all_of f w
      ∙ missed f 0 a w (omega arith) (omega arith) (λ k l m. out k (omega arith) (omega arith) (omega arith))
      ∙ taken f a w (omega arith) p
      ∙ ap (λ (l : List ℕ). a ∷ l)
      (missed f (suc a) b w (omega arith) (omega arith) (λ k l m. out k (omega arith) (omega arith) (omega arith))
      ∙ taken f b w j q
      ∙ ap (λ (l : List ℕ). b ∷ l) (no_more f (suc b) w (omega arith) (λ k l m. out k m (omega arith) (omega arith))))

  three_taken : (a b c : ℕ) → a < b → b < c → c < w → f a ≡ true → f b ≡ true → f c ≡ true →
      ((k : ℕ) → k < w → (k ≡ a → ⊥) → (k ≡ b → ⊥) → (k ≡ c → ⊥) → f k ≡ false) → columns_from w 0 f ≡ a ∷ b ∷ c ∷ []
  three_taken a b c i j l p q r out =
      all_of f w
      ∙ missed f 0 a w (omega arith) (omega arith) (λ k m n. out k (omega arith) (omega arith) (omega arith) (omega arith))
      ∙ taken f a w (omega arith) p
      ∙ ap (λ (l : List ℕ). a ∷ l)
      (missed f (suc a) b w (omega arith) (omega arith) (λ k m n. out k (omega arith) (omega arith) (omega arith) (omega arith))
      ∙ taken f b w (omega arith) q
      ∙ ap (λ (l : List ℕ). b ∷ l)
      (missed f (suc b) c w (omega arith) (omega arith) (λ k m n. out k (omega arith) (omega arith) (omega arith) (omega arith))
      ∙ taken f c w l r
      ∙ ap (λ (l : List ℕ). c ∷ l) (no_more f (suc c) w (omega arith) (λ k m n. out k n (omega arith) (omega arith) (omega arith)))))

-- the neighbours of each column
module _ (w : ℕ) (wide : 6 ≤ w) where
  pub neighbours_first : neighbours w 0 ≡ 1 ∷ 2 ∷ []
  unfolding neighbours
  neighbours_first =
      two_taken (are_neighbours w 0) w 1 2 (omega arith) (omega arith) (next w 0 1 refl) (first_third w 0 2 refl refl)
      (λ k i m n. strangers w 0 k (omega arith))

  pub neighbours_third : neighbours w 2 ≡ 0 ∷ 1 ∷ 3 ∷ []
  unfolding neighbours
  neighbours_third =
      three_taken (are_neighbours w 2) w 0 1 3 (omega arith) (omega arith) (omega arith)
      (third_first w 2 0 refl refl) (previous w 2 1 refl) (next w 2 3 refl)
      (λ k i l m n. strangers w 2 k (omega arith))

  pub neighbours_third_last : (c : ℕ) → c + 3 ≡ w → neighbours w c ≡ (c - 1) ∷ (c + 1) ∷ (c + 2) ∷ []
  unfolding neighbours
  neighbours_third_last c e =
      three_taken (are_neighbours w c) w (c - 1) (c + 1) (c + 2) (omega arith) (omega arith) (omega arith)
      (previous w c (c - 1) (omega arith)) (next w c (c + 1) (omega arith)) (third_last w c (c + 2) e (omega arith))
      (λ k i l m n. strangers w c k (omega arith))

  pub neighbours_last : (c : ℕ) → c + 1 ≡ w → neighbours w c ≡ (c - 2) ∷ (c - 1) ∷ []
  unfolding neighbours
  neighbours_last c e =
      two_taken (are_neighbours w c) w (c - 2) (c - 1) (omega arith) (omega arith)
      (last_third w c (c - 2) (omega arith) (omega arith)) (previous w c (c - 1) (omega arith))
      (λ k i m n. strangers w c k (omega arith))

  pub neighbours_inner : (c : ℕ) → 0 < c → (c ≡ 2 → ⊥) → (c + 3 ≡ w → ⊥) → c + 1 < w → neighbours w c ≡ (c - 1) ∷ (c + 1) ∷ []
  unfolding neighbours
  neighbours_inner c i p q j =
      two_taken (are_neighbours w c) w (c - 1) (c + 1) (omega arith) (omega arith)
      (previous w c (c - 1) (omega arith)) (next w c (c + 1) (omega arith))
      (λ k l m n. strangers w c k (omega arith))

-- a column by where it stands
pub data Column (w c : ℕ) : Type 0 where
  first : c ≡ 0 → Column w c
  third : c ≡ 2 → Column w c
  third_from_last : c + 3 ≡ w → Column w c
  last : c + 1 ≡ w → Column w c
  inner : 0 < c → (c ≡ 2 → ⊥) → (c + 3 ≡ w → ⊥) → c + 1 < w → Column w c

pub column : (w c : ℕ) → c < w → Column w c
column w c i = pick (ℕ_discrete c 0) (ℕ_discrete c 2) (ℕ_discrete (c + 3) w) (ℕ_discrete (c + 1) w)
  where
    pick : Dec (c ≡ 0) → Dec (c ≡ 2) → Dec (c + 3 ≡ w) → Dec (c + 1 ≡ w) → Column w c
    pick (yes e) q r s = first e
    pick (no p) (yes e) r s = third e
    pick (no p) (no q) (yes e) s = third_from_last e
    pick (no p) (no q) (no r) (yes e) = last e
    pick (no p) (no q) (no r) (no s) = inner (omega arith) q r (omega arith)

-- which columns are predecessors
module _ (w c k : ℕ) where
  pub own : k ≡ c → is_predecessor w c k ≡ true
  unfolding is_predecessor
  own e = or_left _ (eq-eqb k c e)

  pub beside : are_neighbours w c k ≡ true → is_predecessor w c k ≡ true
  unfolding is_predecessor
  beside e = or_right (eqb k c) e

  pub unheard : (k ≡ c → ⊥) → Strange w c k → is_predecessor w c k ≡ false
  unfolding is_predecessor
  unheard n m = or_neither (ne_eqb k c n) (strangers w c k m)

-- four columns taken of all
four_taken : (f : ℕ → Bool) (w a : ℕ) → a + 3 < w → f a ≡ true → f (a + 1) ≡ true → f (a + 2) ≡ true → f (a + 3) ≡ true →
    ((k : ℕ) → k < w → (k ≡ a → ⊥) → (k ≡ a + 1 → ⊥) → (k ≡ a + 2 → ⊥) → (k ≡ a + 3 → ⊥) → f k ≡ false) →
    columns_from w 0 f ≡ a ∷ (a + 1) ∷ (a + 2) ∷ (a + 3) ∷ []
four_taken f w a i p q r s out =
    all_of f w
    ∙ missed f 0 a w (omega arith) (omega arith) (λ k m n. out k (omega arith) (omega arith) (omega arith) (omega arith) (omega arith))
    ∙ taken f a w (omega arith) p
    ∙ ap (λ (l : List ℕ). a ∷ l)
    (again a ∙ taken f (a + 1) w (omega arith) q
    ∙ ap (λ (l : List ℕ). (a + 1) ∷ l)
    (next_of (a + 1) (a + 2) (omega arith) ∙ taken f (a + 2) w (omega arith) r
    ∙ ap (λ (l : List ℕ). (a + 2) ∷ l)
    (next_of (a + 2) (a + 3) (omega arith) ∙ taken f (a + 3) w i s
    ∙ ap (λ (l : List ℕ). (a + 3) ∷ l)
    (no_more f (suc (a + 3)) w (omega arith) (λ k m n. out k n (omega arith) (omega arith) (omega arith) (omega arith))))))
  where
    next_of : (x y : ℕ) → suc x ≡ y → between f (suc x) w ≡ between f y w
    next_of x y e = ap (λ (z : ℕ). between f z w) e

    again : (x : ℕ) → between f (suc x) w ≡ between f (x + 1) w
    again x = next_of x (x + 1) (omega arith)

-- the predecessors are a window of adjacent columns
module _ (w c : ℕ) (wide : 6 ≤ w) (i : c < w) where
  pub starts : {k : ℕ} → (c ≤ 2 → k ≡ 0) → (2 < c → w - 2 ≤ c → k ≡ w - 3) → (2 < c → c < w - 2 → k ≡ c - 1) → first_sender w c ≡ k
  unfolding first_sender
  starts a b d =
      by_order c 2
      (λ p. rw (le-leb c 2 p) (sym (a p)))
      (λ p. by_order (w - 2) c
      (λ q. rw (lt-leb c 2 p, le-leb (w - 2) c q) (sym (b p q)))
      (λ q. rw (lt-leb c 2 p, lt-leb (w - 2) c q) (sym (d p q))))

  pub four_yes : (c ≡ 2) ⊎ (c ≡ w - 3) → four_senders w c ≡ true
  unfolding four_senders
  four_yes (inl e) = or_left _ (eq-eqb c 2 e)
  four_yes (inr e) = or_right (eqb c 2) (eq-eqb c (w - 3) e)

  pub four_no : (c ≡ 2 → ⊥) → (c ≡ w - 3 → ⊥) → four_senders w c ≡ false
  unfolding four_senders
  four_no m n = or_neither (ne_eqb c 2 m) (ne_eqb c (w - 3) n)

  window_three : (k : ℕ) → first_sender w c ≡ k → four_senders w c ≡ false → window w c ≡ k ∷ (k + 1) ∷ (k + 2) ∷ []
  unfolding window
  window_three k e f = rw (e, f)

  window_four : (k : ℕ) → first_sender w c ≡ k → four_senders w c ≡ true → window w c ≡ k ∷ (k + 1) ∷ (k + 2) ∷ (k + 3) ∷ []
  unfolding window
  window_four k e f = rw (e, f)

  Heard : ℕ → Type 0
  Heard k = is_predecessor w c k ≡ true

  three : (k : ℕ) → k + 2 < w → first_sender w c ≡ k → four_senders w c ≡ false → Heard k → Heard (k + 1) → Heard (k + 2) →
      ((j : ℕ) → j < w → (j ≡ k → ⊥) → (j ≡ k + 1 → ⊥) → (j ≡ k + 2 → ⊥) → (j ≡ c → ⊥) × Strange w c j) → predecessors w c ≡ window w c
  unfolding predecessors Heard
  three k l e f p q r out =
      three_taken (is_predecessor w c) w k (k + 1) (k + 2) (omega arith) (omega arith) l p q r
      (λ j m x y z. let (a, b) = out j m x y z in unheard w c j a b)
      ∙ sym (window_three k e f)

  four : (k : ℕ) → k + 3 < w → first_sender w c ≡ k → four_senders w c ≡ true → Heard k → Heard (k + 1) → Heard (k + 2) → Heard (k + 3) →
      ((j : ℕ) → j < w → (j ≡ k → ⊥) → (j ≡ k + 1 → ⊥) → (j ≡ k + 2 → ⊥) → (j ≡ k + 3 → ⊥) → (j ≡ c → ⊥) × Strange w c j) → predecessors w c ≡ window w c
  unfolding predecessors Heard
  four k l e f p q r t out =
      four_taken (is_predecessor w c) w k l p q r t (λ j m x y z u. let (a, b) = out j m x y z u in unheard w c j a b)
      ∙ sym (window_four k e f)

  by_column : Column w c → predecessors w c ≡ window w c
  unfolding Heard
  by_column (first e) =
      three 0 (omega arith) (starts (omega arith) (omega arith) (omega arith)) (four_no (omega arith) (omega arith))
      (own w c 0 (omega arith)) (beside w c 1 (next w c 1 (omega arith))) (beside w c 2 (first_third w c 2 e refl))
      (λ j m x y z. omega arith)
  by_column (third e) =
      four 0 (omega arith) (starts (omega arith) (omega arith) (omega arith)) (four_yes (inl e))
      (beside w c 0 (third_first w c 0 e refl)) (beside w c 1 (previous w c 1 (omega arith))) (own w c 2 (omega arith)) (beside w c 3 (next w c 3 (omega arith)))
      (λ j m x y z u. omega arith)
  by_column (third_from_last e) =
      four (c - 1) (omega arith) (starts (omega arith) (omega arith) (omega arith)) (four_yes (inr (omega arith)))
      (beside w c (c - 1) (previous w c (c - 1) (omega arith))) (own w c (c - 1 + 1) (omega arith))
      (beside w c (c - 1 + 2) (next w c (c - 1 + 2) (omega arith))) (beside w c (c - 1 + 3) (third_last w c (c - 1 + 3) e (omega arith)))
      (λ j m x y z u. omega arith)
  by_column (last e) =
      three (c - 2) (omega arith) (starts (omega arith) (omega arith) (omega arith)) (four_no (omega arith) (omega arith))
      (beside w c (c - 2) (last_third w c (c - 2) (omega arith) (omega arith))) (beside w c (c - 2 + 1) (previous w c (c - 2 + 1) (omega arith)))
      (own w c (c - 2 + 2) (omega arith))
      (λ j m x y z. omega arith)
  by_column (inner a b d e) =
      three (c - 1) (omega arith) (starts (omega arith) (omega arith) (omega arith)) (four_no b (omega arith))
      (beside w c (c - 1) (previous w c (c - 1) (omega arith))) (own w c (c - 1 + 1) (omega arith))
      (beside w c (c - 1 + 2) (next w c (c - 1 + 2) (omega arith)))
      (λ j m x y z. omega arith)

  pub predecessors_window : predecessors w c ≡ window w c
  predecessors_window = by_column (column w c i)

  -- three of them, and one more in the third column from an end
  senders_three : four_senders w c ≡ false → length (predecessors w c) ≡ 3
  unfolding window
  senders_three f = rw (predecessors_window, f)

  senders_four : four_senders w c ≡ true → length (predecessors w c) ≡ 4
  unfolding window
  senders_four f = rw (predecessors_window, f)

-- the links before column c: three a column, and one more past each third column from an end
module _ (w : ℕ) (wide : 6 ≤ w) where
  pub links_early : (c : ℕ) → c ≤ 2 → links_before w c ≡ 3 * c
  unfolding links_before
  links_early zero i = refl
  links_early (suc c) i =
      omega (arith, links_early c (omega arith), senders_three w c wide (omega arith) (four_no w c wide (omega arith) (omega arith) (omega arith)))

  pub links_inner : (c : ℕ) → 2 < c → c ≤ w - 3 → links_before w c ≡ 3 * c + 1
  unfolding links_before
  links_inner zero i j = let never : ⊥ = omega arith in absurd never
  links_inner (suc c) i j =
      by_order c 2
      (λ p. let two : c ≡ 2 = omega arith in omega (arith, links_early c p, senders_four w c wide (omega arith) (four_yes w c wide (omega arith) (inl two))))
      (λ p. omega (arith, links_inner c p (omega arith), senders_three w c wide (omega arith) (four_no w c wide (omega arith) (omega arith) (omega arith))))

  pub links_late : (c : ℕ) → w - 3 < c → c ≤ w → links_before w c ≡ 3 * c + 2
  unfolding links_before
  links_late zero i j = let never : ⊥ = omega arith in absurd never
  links_late (suc c) i j =
      by_order c (w - 3)
      (λ p. let third : c ≡ w - 3 = omega arith in omega (arith, links_inner c (omega arith) p, senders_four w c wide (omega arith) (four_yes w c wide (omega arith) (inr third))))
      (λ p. omega (arith, links_late c p (omega arith), senders_three w c wide (omega arith) (four_no w c wide (omega arith) (omega arith) (omega arith))))

-- the place of a number in a list
place_here : (k x : ℕ) (xs : List ℕ) → k ≡ x → place_in k (x ∷ xs) ≡ 0
unfolding place_in
place_here k x xs e = rw (eq-eqb k x e)

place_there : (k x : ℕ) (xs : List ℕ) → (k ≡ x → ⊥) → place_in k (x ∷ xs) ≡ suc (place_in k xs)
unfolding place_in
place_there k x xs n = rw (ne_eqb k x n)

-- the links of a tile stand side by side: sender by sender from the first
module _ (w c : ℕ) (wide : 6 ≤ w) (i : c < w) where
  abbrev pub sender : ℕ → ℕ
  sender n = first_sender w c + n

  place : (k n : ℕ) → place_in k (window w c) ≡ n → link_place w c k ≡ links_before w c + n
  unfolding link_place
  place k n e = rw (predecessors_window w c wide i, e)

  pub first_link_place : link_place w c (first_sender w c) ≡ links_before w c
  unfolding window
  first_link_place = place (first_sender w c) 0 (place_here (first_sender w c) (first_sender w c) _ refl) ∙ omega arith

  pub second_link_place : link_place w c (sender 1) ≡ links_before w c + 1
  unfolding window
  second_link_place =
      place (sender 1) 1
      (place_there (sender 1) (first_sender w c) _ (omega arith) ∙ ap suc (place_here (sender 1) (sender 1) _ refl))

  pub third_link_place : link_place w c (sender 2) ≡ links_before w c + 2
  unfolding window
  third_link_place =
      place (sender 2) 2
      (place_there (sender 2) (first_sender w c) _ (omega arith)
      ∙ ap suc (place_there (sender 2) (sender 1) _ (omega arith) ∙ ap suc (place_here (sender 2) (sender 2) _ refl)))

  pub fourth_link_place : four_senders w c ≡ true → link_place w c (sender 3) ≡ links_before w c + 3
  unfolding window
  fourth_link_place f =
      place (sender 3) 3
      (rw f
      (place_there (sender 3) (first_sender w c) _ (omega arith)
      ∙ ap suc (place_there (sender 3) (sender 1) _ (omega arith)
      ∙ ap suc (place_there (sender 3) (sender 2) _ (omega arith) ∙ ap suc (place_here (sender 3) (sender 3) [] refl)))))
