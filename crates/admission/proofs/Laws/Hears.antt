-- A tile's predecessors and the places of their links, as specs/Limits.antt says them, are those of the definitions. Assumes nothing.
use mathlib.Core.Path.{◌≡◌, refl, ◌∙◌, ap}
use mathlib.Core.Bool.{Bool, true, false, ◌&&◌, ◌||◌, and-eq-true_iff}
use mathlib.Core.List.{List}
use mathlib.Core.Logic.{inl, inr}
use Prim.Native.Nat.{ℕ, zero, suc, ◌+◌, ◌-◌, ◌*◌, ◌≤◌, ◌<◌}
use lib.Dec.{eqb}
use native.Mathlib.Nat.{add-zero}
use native.Mathlib.Omega.{arith}
use borrow.Author.Tests.{eqb-true}
use Rattle.settings.proofs.Laws.Cases.{by_order, by_equal}
use Rattle.columns.specs.Columns.{are_neighbours, columns_from, is_predecessor, links_before, link_place}
use Rattle.columns.specs.Marks.{marked, faulty_among}
use Rattle.columns.specs.Window.{first_sender, four_senders}
use Rattle.columns.proofs.Laws.Columns.{first_link_place, second_link_place, third_link_place, fourth_link_place, links_early, links_inner, links_late, four_yes}
use Rattle.columns.proofs.Laws.Columns as columns
use Rattle.columns.proofs.Laws.Lists.{by_test}
use Rattle.columns.proofs.Laws.Window.{digit, sender_low, sender_high, sender_inner}
use Rattle.admission.specs.Limits.{Hears, own, next, previous, first_third, third_first, third_last, last_third, LinkAt, to_first_three, to_others, to_last_two}

-- a predecessor, both ways
module _ (w c k : ℕ) where
  pub hears_true : Hears w c k → is_predecessor w c k ≡ true
  hears_true (own e) = columns.own w c k e
  hears_true (next e) = columns.beside w c k (columns.next w c k (omega arith))
  hears_true (previous e) = columns.beside w c k (columns.previous w c k (omega arith))
  hears_true (first_third e f) = columns.beside w c k (columns.first_third w c k e f)
  hears_true (third_first e f) = columns.beside w c k (columns.third_first w c k e f)
  hears_true (third_last e f) = columns.beside w c k (columns.third_last w c k e (omega arith))
  hears_true (last_third e f) = columns.beside w c k (columns.last_third w c k (omega arith) f)

  either : {C : Type 0} (a b : Bool) → (a || b) ≡ true → (a ≡ true → C) → (b ≡ true → C) → C
  either true b e f g = f refl
  either false b e f g = g e

  both : (a b d e : ℕ) → (eqb a b && eqb d e) ≡ true → (a ≡ b) × (d ≡ e)
  both a b d e t = let p = (and-eq-true_iff (eqb a b) (eqb d e)).0 t in (eqb-true a b p.0, eqb-true d e p.1)

  neighbour : are_neighbours w c k ≡ true → Hears w c k
  unfolding are_neighbours
  neighbour t =
      either (eqb (suc c) k || eqb (suc k) c) _ t
      (λ u. either (eqb (suc c) k) (eqb (suc k) c) u
      (λ v. next (omega (arith, eqb-true (suc c) k v)))
      (λ v. previous (omega (arith, eqb-true (suc k) c v))))
      (λ u. either ((eqb c 0 && eqb k 2) || (eqb c 2 && eqb k 0)) _ u
      (λ v. either (eqb c 0 && eqb k 2) (eqb c 2 && eqb k 0) v
      (λ x. let p = both c 0 k 2 x in first_third p.0 p.1)
      (λ x. let p = both c 2 k 0 x in third_first p.0 p.1))
      (λ v. either (eqb (c + 3) w && eqb (suc k) w) (eqb (suc c) w && eqb (k + 3) w) v
      (λ x. let p = both (c + 3) w (suc k) w x in third_last p.0 (omega (arith, p.1)))
      (λ x. let p = both (suc c) w (k + 3) w x in last_third (omega (arith, p.0)) p.1)))

  pub true_hears : is_predecessor w c k ≡ true → Hears w c k
  unfolding is_predecessor
  true_hears t = either (eqb k c) (are_neighbours w c k) t (λ u. own (eqb-true k c u)) neighbour

-- where the link from a predecessor stands, by where the window of predecessors lies
module _ (w c k : ℕ) (wide : 6 ≤ w) (here : c < w) (in_row : k < w) where
  at : (n : ℕ) → n ≤ 3 → (n ≡ 3 → four_senders w c ≡ true) → link_place w c (first_sender w c + n) ≡ links_before w c + n
  at zero i f = rw (add-zero, add-zero) (first_link_place w c wide here)
  at (suc zero) i f = second_link_place w c wide here
  at (suc (suc zero)) i f = third_link_place w c wide here
  at (suc (suc (suc zero))) i f = fourth_link_place w c wide here (f refl)
  at (suc (suc (suc (suc n)))) i f = let never : ⊥ = omega arith in absurd never

  near_first : Hears w c k → c ≤ 2 → (k ≤ 3) × (k ≡ 3 → c ≡ 2)
  near_first (own e) i = omega arith
  near_first (next e) i = omega arith
  near_first (previous e) i = omega arith
  near_first (first_third e f) i = omega arith
  near_first (third_first e f) i = omega arith
  near_first (third_last e f) i = omega arith
  near_first (last_third e f) i = omega arith

  near_own : Hears w c k → 3 ≤ c → c + 3 ≤ w → (c ≤ k + 1) × (k ≤ c + 2) × (k ≡ c + 2 → c + 3 ≡ w)
  near_own (own e) i j = omega arith
  near_own (next e) i j = omega arith
  near_own (previous e) i j = omega arith
  near_own (first_third e f) i j = omega arith
  near_own (third_first e f) i j = omega arith
  near_own (third_last e f) i j = omega arith
  near_own (last_third e f) i j = omega arith

  near_last : Hears w c k → w ≤ c + 2 → w ≤ k + 3
  near_last (own e) i = omega arith
  near_last (next e) i = omega arith
  near_last (previous e) i = omega arith
  near_last (first_third e f) i = omega arith
  near_last (third_first e f) i = omega arith
  near_last (third_last e f) i = omega arith
  near_last (last_third e f) i = omega arith

  from_first : (n : ℕ) → k ≡ first_sender w c + n → n ≤ 3 → (n ≡ 3 → four_senders w c ≡ true) → link_place w c k ≡ links_before w c + n
  from_first n e i f = ap (link_place w c) e ∙ at n i f

  module _ (h : Hears w c k) where
    first_three : c ≤ 2 → link_place w c k ≡ 3 * c + k
    first_three i =
        let b = near_first h i in
        from_first k (omega (arith, sender_low w c i)) b.0 (λ q. four_yes w c wide here (inl (b.1 q))) ∙ omega (arith, links_early w wide c i)

    others : 3 ≤ c → c + 3 ≤ w → link_place w c k ≡ 2 * c + k + 2
    others i j =
        let b = near_own h i j in
        from_first (k + 1 - c) (omega (arith, sender_inner w c (omega arith) (omega arith), b.0)) (omega (arith, b.1))
        (λ q. four_yes w c wide here (inr (omega (arith, b.2 (omega (arith, q, b.0))))))
        ∙ omega (arith, links_inner w wide c (omega arith) (omega arith), b.0)

    last_two : w ≤ c + 2 → link_place w c k + w ≡ 3 * c + k + 5
    last_two i =
        let b = near_last h i in
        let place = from_first (k + 3 - w) (omega (arith, sender_high w c (omega arith) (omega arith), b)) (omega arith) (λ q. absurd (let never : ⊥ = omega (arith, q, in_row) in never)) in
        omega (arith, place, b, links_late w wide c (omega arith) (omega arith))

    pub link_there : LinkAt w c k (link_place w c k)
    link_there =
        by_order c 2
        (λ i. to_first_three i (omega (arith, first_three i)))
        (λ i. by_order (c + 3) w (λ j. to_others i j (omega (arith, others i j))) (λ j. to_last_two (omega arith) (omega (arith, last_two (omega arith)))))

    pub link_is : (n : ℕ) → LinkAt w c k n → n ≡ link_place w c k
    link_is n (to_first_three i e) = omega (arith, e, first_three i)
    link_is n (to_others i j e) = omega (arith, e, others i j)
    link_is n (to_last_two i e) = omega (arith, e, last_two i)

-- marks among columns that a test takes: two of them, one, none
module _ (ms : List ℕ) (f : ℕ → Bool) where
  digit_one : (k : ℕ) → marked ms k ≡ true → digit ms k ≡ 1
  digit_one k e = rw e

  digit_none : (k : ℕ) → marked ms k ≡ false → digit ms k ≡ 0
  digit_none k e = rw e

  pub some_marked : (n a k : ℕ) → a ≤ k → k < a + n → f k ≡ true → marked ms k ≡ true → 1 ≤ faulty_among ms (columns_from n a f)
  unfolding columns_from faulty_among
  some_marked zero a k i j t m = let never : ⊥ = omega arith in absurd never
  some_marked (suc n) a k i j t m =
      by_equal a k
      (λ e. let here : f a ≡ true = rw e t in
      let mark : marked ms a ≡ true = rw e m in
      rw here (omega (arith, digit_one a mark)))
      (λ e. let more = some_marked n (suc a) k (omega arith) (omega arith) t m in
      by_test (f a) (λ u. rw u (omega (arith, more))) (λ u. rw u more))

  pub two_marked : (n a j k : ℕ) → a ≤ j → j < k → k < a + n → f j ≡ true → f k ≡ true → marked ms j ≡ true → marked ms k ≡ true →
      2 ≤ faulty_among ms (columns_from n a f)
  unfolding columns_from faulty_among
  two_marked zero a j k i l o t u m v = let never : ⊥ = omega arith in absurd never
  two_marked (suc n) a j k i l o t u m v =
      by_equal a j
      (λ e. let here : f a ≡ true = rw e t in
      let mark : marked ms a ≡ true = rw e m in
      rw here (omega (arith, digit_one a mark, some_marked n (suc a) k (omega arith) (omega arith) u v)))
      (λ e. let more = two_marked n (suc a) j k (omega arith) l (omega arith) t u m v in
      by_test (f a) (λ x. rw x (omega (arith, more))) (λ x. rw x more))

  pub none_marked : (n a : ℕ) → ((k : ℕ) → a ≤ k → k < a + n → f k ≡ true → marked ms k ≡ false) → faulty_among ms (columns_from n a f) ≡ 0
  unfolding columns_from faulty_among
  none_marked zero a h = refl
  none_marked (suc n) a h =
      let rest = none_marked n (suc a) (λ k i j t. h k (omega arith) (omega arith) t) in
      by_test (f a)
      (λ t. rw t (omega (arith, rest, digit_none a (h a (omega arith) (omega arith) t))))
      (λ t. rw t rest)

  pub one_marked : (n a : ℕ) →
      ((j k : ℕ) → a ≤ j → j < k → k < a + n → f j ≡ true → f k ≡ true → marked ms j ≡ true → marked ms k ≡ true → ⊥) →
      faulty_among ms (columns_from n a f) ≤ 1
  unfolding columns_from faulty_among
  one_marked zero a h = omega arith
  one_marked (suc n) a h =
      let rest = one_marked n (suc a) (λ j k i l o t u m v. h j k (omega arith) l (omega arith) t u m v) in
      by_test (f a)
      (λ t. by_test (marked ms a)
      (λ m. rw t (omega (
        arith,
        digit_one a m,
        none_marked n (suc a) (λ k i j u. by_test (marked ms k) (λ v. absurd (h a k (omega arith) (omega arith) (omega arith) t u m v)) (λ v. v)),
      )))
      (λ m. rw t (omega (arith, digit_none a m, rest))))
      (λ t. rw t rest)
