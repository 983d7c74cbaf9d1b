-- The senders of a tile, by their places in the window of its predecessors, and which of them are its neighbours. Assumes nothing.
use mathlib.Core.Path.{◌≡◌, ◌∙◌, ap, subst}
use mathlib.Core.Bool.{Bool, true, false, cond}
use mathlib.Core.List.{List, [], ◌∷◌}
use mathlib.Core.Logic.{inl, inr, ⊎_elim}
use Prim.Native.Nat.{ℕ, zero, suc, ◌+◌, ◌-◌, ◌*◌, ◌≤◌, ◌<◌}
use lib.ListN.{length, get_or}
use native.Mathlib.Nat.{add-zero}
use native.Mathlib.Omega.{arith}
use Rattle.settings.proofs.Laws.Cases.{by_order}
use Rattle.columns.specs.Columns.{columns_from, neighbours, is_predecessor, predecessors, links_before, link_place}
use Rattle.columns.specs.Window.{first_sender, four_senders, window}
use Rattle.columns.proofs.Laws.Columns.{Column, first, third, third_from_last, last, inner, column, four_yes, four_no, starts, predecessors_window, neighbours_first, neighbours_third, neighbours_third_last, neighbours_last, neighbours_inner, first_link_place, second_link_place, third_link_place, fourth_link_place}
use Rattle.columns.proofs.Laws.Lists.{by_test}
use Rattle.columns.proofs.Laws.Window.{four_where, sender_low, sender_high, sender_inner, sender_in, sender_in_four, links_in, links_in_four}
use Rattle.pulse.specs.Arranged.{arranged}

-- a column that a test takes passes it
passes : (f : ℕ → Bool) (n a i : ℕ) → i < length (columns_from n a f) → f (get_or (columns_from n a f) i 0) ≡ true
unfolding columns_from
passes f zero a i l = let never : ⊥ = omega arith in absurd never
passes f (suc n) a zero l = by_test (f a) (λ t. rw t t) (λ t. rw t (passes f n (suc a) zero (rw t at l)))
passes f (suc n) a (suc i) l =
    by_test (f a)
    (λ t. rw t (passes f n (suc a) i (omega (arith, rw t at l))))
    (λ t. rw t (passes f n (suc a) (suc i) (rw t at l)))

-- k is a sender of tile c, and its link stands at p
pub record Sender (w c k p : ℕ) : Type 0 where
  pub in_row : k < w
  pub heard_by : is_predecessor w c k ≡ true
  pub at : link_place w c k ≡ p
  pub in_links : p < 3 * w + 2

-- a tile's window
module _ (w c : ℕ) (wide : 6 ≤ w) (here : c < w) where
  heard : (n : ℕ) → n < length (window w c) → is_predecessor w c (get_or (window w c) n 0) ≡ true
  unfolding predecessors
  heard =
      subst (λ (l : List ℕ). (n : ℕ) → n < length l → is_predecessor w c (get_or l n 0) ≡ true) (predecessors_window w c wide here)
      (passes (is_predecessor w c) w 0)

  -- by place, the first three and the fourth
  abbrev At : ℕ → Type 0
  At n = (is_predecessor w c (first_sender w c + n) ≡ true) × (link_place w c (first_sender w c + n) ≡ links_before w c + n)

  at_place : (n : ℕ) → n < 3 → At n
  unfolding window
  at_place zero i = rw (add-zero, add-zero) (heard 0 (omega arith), first_link_place w c wide here)
  at_place (suc zero) i = (heard 1 (omega arith), second_link_place w c wide here)
  at_place (suc (suc zero)) i = (heard 2 (omega arith), third_link_place w c wide here)
  at_place (suc (suc (suc n))) i = let never : ⊥ = omega arith in absurd never

  at_fourth : four_senders w c ≡ true → At 3
  unfolding window
  at_fourth f = (rw f at (heard 3 (rw f (omega arith))), fourth_link_place w c wide here f)

  pub sender : {k p : ℕ} (n : ℕ) → n < 3 → k ≡ first_sender w c + n → p ≡ links_before w c + n → Sender w c k p
  sender n i e f =
      record {
        in_row = omega (arith, sender_in w c wide here);
        heard_by = rw e (at_place n i).0;
        at = rw (e, f) (at_place n i).1;
        in_links = omega (arith, links_in w wide c here);
      }

  pub fourth : {k p : ℕ} → four_senders w c ≡ true → k ≡ first_sender w c + 3 → p ≡ links_before w c + 3 → Sender w c k p
  fourth f e g =
      record {
        in_row = omega (arith, sender_in_four w c wide f);
        heard_by = rw e (at_fourth f).0;
        at = rw (e, g) (at_fourth f).1;
        in_links = omega (arith, links_in_four w wide c here f);
      }

  -- own stands among the first three, the second or third of four, and the others are the neighbours
  abbrev Right : (own a b : ℕ) → Type 0
  Right own a b = (own ≡ c) × (neighbours w c ≡ a ∷ b ∷ cond (four_senders w c) ((first_sender w c + 3) ∷ []) [])

  abbrev Placed : Type 0
  Placed = arranged (c - first_sender w c) Right (first_sender w c + 0) (first_sender w c + 1) (first_sender w c + 2)

  two : {a b : ℕ} (k l : ℕ) → neighbours w c ≡ a ∷ b ∷ [] → four_senders w c ≡ false → (k ≡ a) × (l ≡ b) →
      neighbours w c ≡ k ∷ l ∷ cond (four_senders w c) ((first_sender w c + 3) ∷ []) []
  two k l n f e = n ∙ rw (f, e.0, e.1)

  three : {a b d : ℕ} (k l : ℕ) → neighbours w c ≡ a ∷ b ∷ d ∷ [] → four_senders w c ≡ true → (k ≡ a) × (l ≡ b) × (first_sender w c + 3 ≡ d) →
      neighbours w c ≡ k ∷ l ∷ cond (four_senders w c) ((first_sender w c + 3) ∷ []) []
  three k l n f e = n ∙ rw (f, e.0, e.1, e.2)

  begins : {k : ℕ} → (c ≤ 2 → k ≡ 0) → (2 < c → w - 2 ≤ c → k ≡ w - 3) → (2 < c → c < w - 2 → k ≡ c - 1) → first_sender w c ≡ k
  begins = starts w c wide here

  by_column : Column w c → Placed
  unfolding arranged
  by_column (first e) =
      let k : first_sender w c ≡ c = begins (omega arith) (omega arith) (omega arith) in
      let own : c - first_sender w c ≡ 0 = omega arith in
      rw own (omega arith, two _ _ (ap (neighbours w) e ∙ neighbours_first w wide) (four_no w c wide here (omega arith) (omega arith)) (omega arith))
  by_column (third e) =
      let k : first_sender w c ≡ c - 2 = begins (omega arith) (omega arith) (omega arith) in
      let own : c - first_sender w c ≡ 2 = omega arith in
      rw own (omega arith, three _ _ (ap (neighbours w) e ∙ neighbours_third w wide) (four_yes w c wide here (inl e)) (omega arith))
  by_column (third_from_last e) =
      let k : first_sender w c ≡ c - 1 = begins (omega arith) (omega arith) (omega arith) in
      let own : c - first_sender w c ≡ 1 = omega arith in
      rw own (omega arith, three _ _ (neighbours_third_last w wide c e) (four_yes w c wide here (inr (omega arith))) (omega arith))
  by_column (last e) =
      let k : first_sender w c ≡ c - 2 = begins (omega arith) (omega arith) (omega arith) in
      let own : c - first_sender w c ≡ 2 = omega arith in
      rw own (omega arith, two _ _ (neighbours_last w wide c e) (four_no w c wide here (omega arith) (omega arith)) (omega arith))
  by_column (inner a b d e) =
      let k : first_sender w c ≡ c - 1 = begins (omega arith) (omega arith) (omega arith) in
      let own : c - first_sender w c ≡ 1 = omega arith in
      rw own (omega arith, two _ _ (neighbours_inner w wide c a b d e) (four_no w c wide here b (omega arith)) (omega arith))

  pub placed : Placed
  placed = by_column (column w c here)

  pub own_in : first_sender w c ≤ c
  own_in =
      by_order c 2
      (λ i. omega (arith, sender_low w c i))
      (λ i. by_order (w - 2) c (λ j. omega (arith, sender_high w c i j)) (λ j. omega (arith, sender_inner w c i j)))

  pub own_of_four : four_senders w c ≡ true → first_sender w c < c
  own_of_four f =
      ⊎_elim
      (λ (e : c ≡ 2). omega (arith, sender_low w c (omega arith)))
      (λ (e : c ≡ w - 3). omega (arith, sender_inner w c (omega arith) (omega arith)))
      (four_where w c f)
